use Rattle.hc_exchange.proofs.lemmas.Decoded.{block-one}
use Rattle.hc_exchange.proofs.programmed_laws.pairs_are_one_to_one.Goals as goal

pub returns : goal.returns
returns c = block-one
