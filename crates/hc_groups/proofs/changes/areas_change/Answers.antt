use Rattle.std.proofs.Common.{◌≡◌, ◌∙◌, List, subst, sym}
use Rattle.std.specs.Prelude.{IfOk}
use Rattle.hc_records.specs.declared.records.Declared.{Declared}
use Rattle.hc_groups.specs.Changes.{areas_changed}
use Rattle.hc_groups.specs.Edits.{changed_area}
use Rattle.hc_groups.proofs.Known.{areas-known, known-slave}
use Rattle.hc_groups.proofs.changes.areas_change.Goals as goal

pub unreachable-requires : goal.unreachable-requires
unreachable-requires c = known-slave c.args.groups.now c.args.edit.now.station c.requires.known (sym c.slave_place.ensures ∙ c.in_default.is)

pub returns : goal.returns
returns c =
    let edit = c.args.edit.now in
    areas-known c.areas_changed.result c.args.groups.now edit.station edit.area (changed_area edit.change) c.in-Some.place (sym c.slave_place.ensures ∙ c.in-Some.is)
    (subst (λ (g : List Declared). IfOk c.areas_changed.result (λ found. found ≡ areas_changed g edit.area (changed_area edit.change) c.in-Some.place)) c.groups.ensures c.areas_changed.ensures)
