use Rattle.hc_exchange.proofs.lemmas.Lines.{others-back}
use Rattle.hc_exchange.proofs.carrying_laws.other_bits_come_back.Goals as goal

pub returns : goal.returns
returns c = others-back
