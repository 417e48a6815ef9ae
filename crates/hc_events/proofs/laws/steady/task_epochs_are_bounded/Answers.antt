use Rattle.hc_events.proofs.lemmas.Steady.{epochs-bounded}
use Rattle.hc_events.proofs.laws.steady.task_epochs_are_bounded.Goals as goal

pub returns : goal.returns
returns c = epochs-bounded
