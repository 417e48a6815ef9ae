use Rattle.hc_exchange.proofs.lemmas.Runs.{entries-keep}
use Rattle.hc_exchange.proofs.holding_laws.entries_keep_registers.Goals as goal

pub returns : goal.returns
returns c = entries-keep
