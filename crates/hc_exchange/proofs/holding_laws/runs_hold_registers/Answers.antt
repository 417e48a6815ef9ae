use Rattle.hc_exchange.proofs.lemmas.Runs.{runs-hold}
use Rattle.hc_exchange.proofs.holding_laws.runs_hold_registers.Goals as goal

pub returns : goal.returns
returns c = runs-hold
