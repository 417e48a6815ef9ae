use Rattle.hc_exchange.proofs.lemmas.TaskBlocks.{blocks-carry}
use Rattle.hc_exchange.proofs.task_laws.task_blocks_carry.Goals as goal

pub returns : goal.returns
returns c = blocks-carry
