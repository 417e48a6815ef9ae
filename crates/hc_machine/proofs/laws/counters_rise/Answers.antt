use Rattle.hc_machine.proofs.Alias.{counters-rise}
use Rattle.hc_machine.proofs.laws.counters_rise.Goals as goal

pub returns : goal.returns
returns c = counters-rise
