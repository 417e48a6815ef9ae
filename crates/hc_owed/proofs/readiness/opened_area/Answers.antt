use Rattle.std.proofs.Common.{Some, None, sym, ap₂, ◌∙◌, rules}
use Rattle.hc_owed.specs.declared.area.OwedPair.TheVariants.{Both}
use Rattle.hc_owed.specs.declared.area.RegisterStatus.TheVariants.{Unknown}
use Rattle.hc_owed.specs.declared.task_set.TaskSet.{TaskSet}
use Rattle.hc_owed.proofs.JudgedAreas.{area_from, own-named}
use Rattle.hc_owed.proofs.ReadyOpening.{opened-is}
use Rattle.hc_owed.proofs.readiness.opened_area.Goals as goal

pub returns-in-Some : goal.returns-in-Some
returns-in-Some c =
    ap₂ (λ (s t : TaskSet). area_from s t Both Unknown) (c.of.ensures ∙ own-named c.in-Some.found c.named_task.result (search rules)) c.none.ensures
    ∙ sym (opened-is c.args.plan.now c.args.n (Some c.in-Some.found) c.requires.project c.requires.inside c.in-Some.ensures)

pub returns-in-None : goal.returns-in-None
returns-in-None c = c.outside.ensures ∙ sym (opened-is c.args.plan.now c.args.n None c.requires.project c.requires.inside c.in-None.ensures)
