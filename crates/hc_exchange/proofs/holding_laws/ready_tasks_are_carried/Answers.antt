use Rattle.hc_exchange.proofs.lemmas.ReadyTasks.{ready-carried}
use Rattle.hc_exchange.proofs.holding_laws.ready_tasks_are_carried.Goals as goal

pub returns : goal.returns
returns c = ready-carried
