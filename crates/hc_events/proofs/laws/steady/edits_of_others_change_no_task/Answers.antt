use Rattle.hc_events.proofs.lemmas.OtherTasks.{others-change}
use Rattle.hc_events.proofs.laws.steady.edits_of_others_change_no_task.Goals as goal

pub returns : goal.returns
returns c = others-change
