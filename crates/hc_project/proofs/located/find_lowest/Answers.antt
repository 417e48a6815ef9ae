use Rattle.std.proofs.Common.{◌≢◌, ◌∙◌, ap, sym, refl, rules}
use Rattle.toml.specs.View.{view}
use Rattle.hc_records.specs.declared.faults.ProjectFault.TheVariants.{Memory}
use Rattle.hc_project.specs.Located.{location_of}
use Rattle.hc_project.specs.Text.{groups_or_fault}
use Rattle.hc_project.proofs.Joined.{same_reading}
use Rattle.hc_project.proofs.Judged.{placed}
use Rattle.hc_project.proofs.located.find_lowest.Goals as goal

pub unreachable-requires : goal.unreachable-requires
unreachable-requires c =
    let differs : c.in-Err.fault ≢ Memory = search rules in
    let groups = c.in_ok-groups.groups in
    let copy = same_reading groups c.in_ok-copied.field-0 groups.syntax_faults c.in_ok-copied.ensures refl in
    let refused = ap groups_or_fault (sym c.in_ok-groups.ensures) ∙ ap groups_or_fault (sym copy) ∙ c.in-Err.ensures.refused differs in
    placed c.in-Err.fault (view c.args.document.now) refused
    (ap (location_of c.in-Err.fault) (sym c.in_ok-groups.ensures) ∙ sym c.in_ok-location.ensures ∙ c.in-None.is)
