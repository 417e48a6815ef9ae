use Rattle.hc_records.specs.Line.{line}
use Rattle.hc_exchange.specs.Carrying.{IsBitOfTask}
use Rattle.hc_exchange.proofs.lemmas.Lines.{asked-outputs}
use Rattle.hc_exchange.proofs.task_laws.asked_outputs_arrive.Goals as goal

pub returns : goal.returns
returns c state task = asked-outputs (IsBitOfTask (line state) task) state
