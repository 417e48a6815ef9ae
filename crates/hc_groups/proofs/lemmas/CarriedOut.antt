-- What an edit changes, carried out in the groups of a project, leaves the groups that the edit leaves.
use Rattle.std.proofs.Common.{◌≡◌, ◌≢◌, ℕ, zero, suc, Bool, false, List, [], ◌∷◌, Option, Some, None, refl, sym, ap, ◌∙◌, rules}
use Rattle.std.specs.Prelude.{All, AllPairs, ◌==◌, map, option_and_then, position, slice_get}
use Rattle.std.specs.Option.{option_map_or}
use Rattle.std.proofs.lemmas.Bool.{eqb-true, ne_eqb}
use Rattle.std.proofs.lemmas.List.Elements.{All-weaker}
use Rattle.hc_records.specs.declared.records.Area.{Area}
use Rattle.hc_records.specs.declared.records.Slave.{Slave}
use Rattle.hc_records.specs.declared.records.Group.{Group}
use Rattle.hc_records.specs.declared.records.Declared.{Declared}
use Rattle.hc_records.specs.declared.edit.Edit.{Edit}
use Rattle.hc_records.specs.Lists.{changed_at}
use Rattle.hc_records.specs.Edits.{groups_after, with_area, with_presence, with_slaves}
use Rattle.hc_records.specs.Line.{groups_of, has_address}
use Rattle.hc_records.specs.Project.{lowest_fault}
use Rattle.hc_records.proofs.lemmas.Finds.{mapped-some}
use Rattle.hc_records.proofs.lemmas.Limits.{project-inside}
use Rattle.hc_records.proofs.lemmas.Lines.{declared_slaves}
use Rattle.hc_records.proofs.lemmas.Lists.{All-append_left, All-append_right, All-from_none, AllPairs-append_left, AllPairs-append_right, AllPairs-between, AllPairs-unmap}
use Rattle.hc_groups.specs.declared.changes.AreasChange.{AreasChange}
use Rattle.hc_groups.specs.declared.changes.PresenceChange.{PresenceChange}
use Rattle.hc_groups.specs.declared.prepared.Prepared.{Prepared}
use Rattle.hc_groups.specs.declared.prepared.Prepared.TheVariants.{Presence, Areas}
use Rattle.hc_groups.specs.Changes.{areas_change, areas_changed, change_by, changed_groups, has_alias, has_slave, place_at, station_place, presence_at, presence_change, slave_place, slaves_at, with_areas, with_present, with_slave}
use Rattle.hc_groups.proofs.Found.{IsFirstAt, changed-alike, first-at, none-changed, once-changed, there}

-- the presence of a group

presence-carried : (groups : List Declared) (alias : ℕ) (present : Bool) (change : PresenceChange) → lowest_fault (groups_of groups) ≡ None → presence_change groups alias present ≡ Some change →
    changed_groups (Presence change) groups ≡ map (with_presence alias present) groups
presence-carried groups alias present change none is =
    let at = mapped-some (presence_at groups present) (position (has_alias alias) groups) change is in
    let aliases = AllPairs-unmap (λ (a b : Group). a.alias ≢ b.alias) (λ (d : Declared). d.group) groups (project-inside (groups_of groups) none).aliases in
    ap (λ (c : PresenceChange). changed_groups (Presence c) groups) (sym at.2)
    ∙ sym (once-changed (λ (d : Declared). d.group.alias) alias at.0 (with_present present) groups aliases (first-at (has_alias alias) at.0 groups at.1))

-- the areas of a slave

abbrev AreApart : Slave → Slave → Type 0
AreApart a b = a.station ≢ b.station

abbrev other_than : ℕ → Slave → Type 0
other_than station slave = (slave.station == station) ≡ false

abbrev on_areas : ℕ → (Area → Area) → Slave → Slave
on_areas area change slave = record slave { areas = changed_at area change slave.areas }

abbrev areas_by : List Declared → ℕ → ℕ → List Area
areas_by groups group slave = option_map_or (λ (s : Slave). s.areas) (slice_get (slaves_at groups group) slave) []

abbrev with_all : List Slave → Declared → Declared
with_all slaves declared = record declared { group = record declared.group { slaves = slaves } }

groups-without : (station area : ℕ) (change : Area → Area) (groups : List Declared) → All (other_than station) (declared_slaves groups) →
    map (with_slaves (with_area station area change)) groups ≡ groups
groups-without station area change [] others = refl
groups-without station area change (declared ∷ groups) others =
    let slaves = declared.group.slaves in
    ap (λ (own : List Slave). with_all own declared ∷ map (with_slaves (with_area station area change)) groups)
    (none-changed (λ (s : Slave). s.station) station (on_areas area change) slaves (All-append_left (other_than station) slaves (declared_slaves groups) others))
    ∙ ap (λ (rest : List Declared). declared ∷ rest) (groups-without station area change groups (All-append_right (other_than station) slaves (declared_slaves groups) others))

slaves-with : (station area slave : ℕ) (change : Area → Area) (slaves : List Slave) (found : Slave) → AllPairs AreApart slaves → IsFirstAt (has_address station) slave slaves → slice_get slaves slave ≡ Some found →
    changed_at slave (with_areas (changed_at area change (option_map_or (λ (s : Slave). s.areas) (slice_get slaves slave) []))) slaves ≡ map (with_area station area change) slaves
slaves-with station area slave change slaves found apart first at =
    let areas = changed_at area change (option_map_or (λ (s : Slave). s.areas) (slice_get slaves slave) []) in
    let same : areas ≡ changed_at area change found.areas = ap (λ (o : Option Slave). changed_at area change (option_map_or (λ (s : Slave). s.areas) o [])) at in
    changed-alike slave (with_areas areas) (on_areas area change) slaves found at (ap (λ (own : List Area). with_areas own found) same)
    ∙ sym (once-changed (λ (s : Slave). s.station) station slave (on_areas area change) slaves apart first)

groups-with : (station area : ℕ) (change : Area → Area) (groups : List Declared) (group slave : ℕ) → AllPairs AreApart (declared_slaves groups) → IsFirstAt (has_slave station) group groups →
    IsFirstAt (has_address station) slave (slaves_at groups group) →
    changed_at group (with_slave slave (changed_at area change (areas_by groups group slave))) groups ≡ map (with_slaves (with_area station area change)) groups
groups-with station area change [] group slave apart first second = absurd first
groups-with station area change (declared ∷ groups) zero slave apart first second =
    let slaves = declared.group.slaves in
    let after_it = declared_slaves groups in
    let it = there (λ a. All (AreApart a) after_it) (has_address station) slave slaves (AllPairs-between AreApart slaves after_it apart) second in
    let others = All-weaker (AreApart it.found) (other_than station)
    (λ s other. ne_eqb s.station station (λ is. other (eqb-true it.found.station station it.passes ∙ sym is))) after_it it.holds in
    ap (λ (own : List Slave). with_all own declared ∷ groups)
    (slaves-with station area slave change slaves it.found (AllPairs-append_left AreApart slaves after_it apart) second it.at)
    ∙ ap (λ (rest : List Declared). with_slaves (with_area station area change) declared ∷ rest) (sym (groups-without station area change groups others))
groups-with station area change (declared ∷ groups) (suc group) slave apart first second =
    let slaves = declared.group.slaves in
    ap (λ (rest : List Declared). declared ∷ rest)
    (groups-with station area change groups group slave (AllPairs-append_right AreApart slaves (declared_slaves groups) apart) first.1 second)
    ∙ ap (λ (own : List Slave). with_all own declared ∷ map (with_slaves (with_area station area change)) groups)
    (sym (none-changed (λ (s : Slave). s.station) station (on_areas area change) slaves (All-from_none (has_address station) slaves first.0)))

pub joined-some : {X Y : Type 0} (f : X → Option Y) (found : Option X) (y : Y) → option_and_then f found ≡ Some y → (x : X) × (found ≡ Some x) × (f x ≡ Some y)
joined-some f found y is = search rules

areas-carried : (groups : List Declared) (station area : ℕ) (change : Area → Area) (found : AreasChange) → lowest_fault (groups_of groups) ≡ None → areas_change groups station area change ≡ Some found →
    changed_groups (Areas found) groups ≡ map (with_slaves (with_area station area change)) groups
areas-carried groups station area change found none is =
    let at = mapped-some (areas_changed groups area change) (slave_place groups station) found is in
    let among = joined-some (station_place groups station) (position (has_slave station) groups) at.0 at.1 in
    let own = mapped-some (place_at groups among.0) (position (has_address station) (slaves_at groups among.0)) at.0 among.2 in
    ap (λ (c : AreasChange). changed_groups (Areas c) groups) (sym at.2)
    ∙ ap (λ place. changed_groups (Areas (areas_changed groups area change place)) groups) (sym own.2)
    ∙ groups-with station area change groups among.0 own.0 (project-inside (groups_of groups) none).stations
    (first-at (has_slave station) among.0 groups among.1)
    (first-at (has_address station) own.0 (slaves_at groups among.0) own.1)

pub carried-after : (groups : List Declared) (edit : Edit) (change : Prepared) → lowest_fault (groups_of groups) ≡ None → change_by groups edit ≡ Some change →
    changed_groups change groups ≡ groups_after groups edit
carried-after groups edit change none is = search (rules, mapped-some, presence-carried, areas-carried)
