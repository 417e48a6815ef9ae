use Rattle.hc_exchange.proofs.lemmas.TaskBlocks.{fresh-pass}
use Rattle.hc_exchange.proofs.task_laws.fresh_machines_pass.Goals as goal

pub returns : goal.returns
returns c = fresh-pass
