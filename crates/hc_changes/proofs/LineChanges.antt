-- The differences that a change of declared groups makes in their line.
use Rattle.std.proofs.Common.{◌≡◌, Bool, false, List, [], Option, None, Some, if◌then◌else◌, refl, sym}
use Rattle.std.specs.Prelude.{map, slice_get}
use Rattle.std.specs.Option.{option_map_or}
use Rattle.hc_records.specs.declared.records.Declared.{Declared}
use Rattle.hc_records.specs.declared.records.Slave.{Slave}
use Rattle.hc_groups.specs.declared.changes.AreasChange.{AreasChange}
use Rattle.hc_groups.specs.declared.changes.PresenceChange.{PresenceChange}
use Rattle.hc_groups.specs.declared.prepared.Prepared.TheVariants.{Areas, Presence}
use Rattle.hc_groups.specs.Rows.{areas_in_line, present_ranked}
use Rattle.hc_groups.proofs.lemmas.Concerned.{areas-row, presence-row}
use Rattle.hc_cuts.specs.LineChange.{LineChange, areas_if}
use Rattle.hc_changes.specs.EditedLine.{line_change_of}
use Rattle.hc_changes.specs.inner.LineChanges.{slave_change_of}
use Rattle.hc_changes.proofs.lemmas.EditedLines.{answer_given-of}

if-answer_given : (present : Bool) (slaves : List Slave) → areas_if present slaves ≡ map areas_in_line (present_ranked present slaves)
if-answer_given present slaves = answer_given-of areas_in_line (λ p s. if p then s.areas else []) (λ p s. refl) present slaves

-- what a group has before it comes or goes, and after

abbrev group_change : PresenceChange → Bool → List Slave → LineChange
group_change change present slaves = record { first = change.first; areas_before = areas_if present slaves; areas_after = areas_if change.present slaves }

by-rows : (change : PresenceChange) (groups : List Declared) (found : Option Declared) → slice_get groups change.group ≡ found →
    line_change_of (Presence change) groups
    ≡ record {
      first = change.first;
      areas_before = map areas_in_line (option_map_or (λ d. present_ranked d.present d.group.slaves) found []);
      areas_after = map areas_in_line (option_map_or (λ d. present_ranked change.present d.group.slaves) found []);
    }
by-rows change groups found at = rw (presence-row change groups, at) refl

pub group-made : (change : PresenceChange) (groups : List Declared) (declared : Declared) → slice_get groups change.group ≡ Some declared →
    group_change change declared.present declared.group.slaves ≡ line_change_of (Presence change) groups
group-made change groups declared at =
    rw (if-answer_given declared.present declared.group.slaves, if-answer_given change.present declared.group.slaves) (sym (by-rows change groups (Some declared) at))

pub no-group : (change : PresenceChange) (groups : List Declared) → slice_get groups change.group ≡ None →
    record { first = change.first; areas_before = areas_if false []; areas_after = areas_if false [] } ≡ line_change_of (Presence change) groups
no-group change groups at = sym (by-rows change groups None at)

-- what a slave has before it gets other areas, and after

pub slave-made : (change : AreasChange) (groups : List Declared) (declared : Declared) → slice_get groups change.place.group ≡ Some declared →
    slave_change_of change declared ≡ line_change_of (Areas change) groups
slave-made change groups declared at = rw (areas-row change groups, at) refl

pub no-slave : (change : AreasChange) (groups : List Declared) → slice_get groups change.place.group ≡ None →
    record { first = change.place.rank; areas_before = areas_if false []; areas_after = areas_if false [] } ≡ line_change_of (Areas change) groups
no-slave change groups at = rw (areas-row change groups, at) refl
