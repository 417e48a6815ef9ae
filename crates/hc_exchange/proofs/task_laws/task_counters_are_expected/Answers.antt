use Rattle.hc_exchange.proofs.lemmas.Counts.{task-counts}
use Rattle.hc_exchange.proofs.task_laws.task_counters_are_expected.Goals as goal

pub returns : goal.returns
returns c = task-counts
