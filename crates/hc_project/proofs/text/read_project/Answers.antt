use Rattle.std.proofs.Common.{◌≡◌, ◌≢◌, ap, subst, sym, ◌∙◌, Ok, Err, IfErr, IfOk}
use Rattle.toml.proofs.Views.{view-Table}
use Rattle.hc_records.specs.declared.faults.ProjectFault.TheVariants.{Memory}
use Rattle.hc_project.specs.Levels.{declared_groups}
use Rattle.hc_project.proofs.Texts.{found}
use Rattle.hc_project.proofs.text.read_project.Goals as goal

pub returns-clause-project : goal.returns-clause-project
returns-clause-project c =
    let read = c.in_ok-groups.ensures ∙ ap declared_groups (view-Table c.in-Ok.table) in
    let is = found c.args.text.now _ c.in_ok-groups.groups c.in-Ok.ensures.ok.0 c.in-Ok.ensures.ok.1 read in
    subst (λ settled. IfOk c.settle.result (λ project. settled ≡ Ok project)) (sym is) c.settle.ensures.project

pub returns-clause-refused : goal.returns-clause-refused
returns-clause-refused c =
    let read = c.in_ok-groups.ensures ∙ ap declared_groups (view-Table c.in-Ok.table) in
    let is = found c.args.text.now _ c.in_ok-groups.groups c.in-Ok.ensures.ok.0 c.in-Ok.ensures.ok.1 read in
    subst (λ settled. IfErr c.settle.result (λ fault. fault ≢ Memory → settled ≡ Err fault)) (sym is) c.settle.ensures.refused
