use Rattle.hc_records.specs.Line.{line}
use Rattle.hc_exchange.specs.Carrying.{IsBitOfTask}
use Rattle.hc_exchange.proofs.lemmas.Lines.{asked-memory}
use Rattle.hc_exchange.proofs.task_laws.memory_beside_asked_stays.Goals as goal

pub returns : goal.returns
returns c state task = asked-memory (IsBitOfTask (line state) task) state
