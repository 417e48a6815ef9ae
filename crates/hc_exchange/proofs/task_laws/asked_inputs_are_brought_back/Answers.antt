use Rattle.hc_records.specs.Line.{line}
use Rattle.hc_exchange.specs.Carrying.{IsBitOfTask}
use Rattle.hc_exchange.proofs.lemmas.Lines.{asked-inputs}
use Rattle.hc_exchange.proofs.task_laws.asked_inputs_are_brought_back.Goals as goal

pub returns : goal.returns
returns c state task = asked-inputs (IsBitOfTask (line state) task) state
