use Rattle.hc_exchange.proofs.lemmas.Lines.{inputs-brought}
use Rattle.hc_exchange.proofs.carrying_laws.inputs_are_brought_back.Goals as goal

pub returns : goal.returns
returns c = inputs-brought
