use Rattle.hc_records.specs.Line.{line}
use Rattle.hc_exchange.specs.Carrying.{IsBitOfTask}
use Rattle.hc_exchange.proofs.lemmas.Sequences.{asked-all-outputs}
use Rattle.hc_exchange.proofs.task_laws.all_asked_outputs_arrive.Goals as goal

pub returns : goal.returns
returns c state task = asked-all-outputs (IsBitOfTask (line state) task) state
