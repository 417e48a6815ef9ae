use Rattle.hc_records.specs.Line.{line}
use Rattle.hc_exchange.specs.Carrying.{IsBitOfTask}
use Rattle.hc_exchange.proofs.lemmas.Lines.{carrying-stays}
use Rattle.hc_exchange.proofs.task_laws.lines_stay_carrying.Goals as goal

pub returns : goal.returns
returns c state task = carrying-stays (IsBitOfTask (line state) task) state
