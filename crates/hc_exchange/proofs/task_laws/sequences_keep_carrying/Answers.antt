use Rattle.hc_records.specs.Line.{line}
use Rattle.hc_exchange.specs.Carrying.{IsBitOfTask}
use Rattle.hc_exchange.proofs.lemmas.Sequences.{asked-all-keep}
use Rattle.hc_exchange.proofs.task_laws.sequences_keep_carrying.Goals as goal

pub returns : goal.returns
returns c state task = asked-all-keep (IsBitOfTask (line state) task) state
