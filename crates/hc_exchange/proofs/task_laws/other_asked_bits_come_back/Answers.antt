use Rattle.hc_records.specs.Line.{line}
use Rattle.hc_exchange.specs.Carrying.{IsBitOfTask}
use Rattle.hc_exchange.proofs.lemmas.Lines.{asked-others}
use Rattle.hc_exchange.proofs.task_laws.other_asked_bits_come_back.Goals as goal

pub returns : goal.returns
returns c state task = asked-others (IsBitOfTask (line state) task) state
