use Rattle.hc_events.proofs.Numbers.{comes-again}
use Rattle.hc_events.proofs.laws.indexes_come_again.Goals as goal

pub returns : goal.returns
returns c = comes-again
