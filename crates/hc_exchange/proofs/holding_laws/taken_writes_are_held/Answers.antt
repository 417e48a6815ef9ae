use Rattle.hc_exchange.proofs.lemmas.TakenFrames.{taken-held}
use Rattle.hc_exchange.proofs.holding_laws.taken_writes_are_held.Goals as goal

pub returns : goal.returns
returns c = taken-held
