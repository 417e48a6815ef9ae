use Rattle.hc_records.specs.Line.{line}
use Rattle.hc_exchange.specs.Carrying.{IsBitOfTask}
use Rattle.hc_exchange.proofs.lemmas.Sequences.{asked-all-inputs}
use Rattle.hc_exchange.proofs.task_laws.all_asked_inputs_are_brought_back.Goals as goal

pub returns : goal.returns
returns c state task = asked-all-inputs (IsBitOfTask (line state) task) state
