use Rattle.hc_records.specs.Line.{line}
use Rattle.hc_exchange.specs.Carrying.{IsBitOfTask}
use Rattle.hc_exchange.proofs.lemmas.Asked.{programmed-carry}
use Rattle.hc_exchange.proofs.task_laws.programmed_lines_carry.Goals as goal

pub returns : goal.returns
returns c state task = programmed-carry (IsBitOfTask (line state) task) state
