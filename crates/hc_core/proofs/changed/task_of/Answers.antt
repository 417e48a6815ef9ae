use Rattle.std.proofs.Common.{◌==◌, ap, sym, ◌∙◌}
use Rattle.hc_records.specs.Image.{VariablePlace}
use Rattle.hc_events.specs.Steady.{lies_in_task}
use Rattle.hc_owed.proofs.lemmas.TaskSums.{none-has, only-has}
use Rattle.hc_core.proofs.changed.task_of.Goals as goal

pub returns-in-Some : goal.returns-in-Some
returns-in-Some c = λ task low.
    only-has task c.place.inside.task c.of.result low c.of.ensures
    ∙ ap (λ (p : VariablePlace). p.task == task) c.place.view_is
    ∙ ap (lies_in_task task) (sym c.in-Some.is)

pub returns-in-None : goal.returns-in-None
returns-in-None c = λ task low. none-has task c.none.result low c.none.ensures ∙ ap (lies_in_task task) (sym c.in-None.is)
