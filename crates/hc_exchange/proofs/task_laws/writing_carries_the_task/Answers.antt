use Rattle.hc_exchange.proofs.lemmas.TaskBlocks.{writing-carries}
use Rattle.hc_exchange.proofs.task_laws.writing_carries_the_task.Goals as goal

pub returns : goal.returns
returns c = writing-carries
