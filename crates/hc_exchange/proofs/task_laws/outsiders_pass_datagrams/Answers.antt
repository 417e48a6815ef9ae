use Rattle.hc_records.specs.Line.{line}
use Rattle.hc_exchange.specs.Carrying.{IsBitOfTask}
use Rattle.hc_exchange.proofs.lemmas.Wires.{wires-pass}
use Rattle.hc_exchange.proofs.task_laws.outsiders_pass_datagrams.Goals as goal

pub returns : goal.returns
returns c state task = wires-pass (IsBitOfTask (line state) task) state
