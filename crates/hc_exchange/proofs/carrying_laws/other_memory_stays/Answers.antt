use Rattle.hc_exchange.proofs.lemmas.Lines.{others-stay}
use Rattle.hc_exchange.proofs.carrying_laws.other_memory_stays.Goals as goal

pub returns : goal.returns
returns c = others-stay
