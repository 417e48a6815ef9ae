use Rattle.hc_exchange.proofs.lemmas.Decoded.{block-pairs}
use Rattle.hc_exchange.proofs.programmed_laws.blocks_pair_their_areas.Goals as goal

pub returns : goal.returns
returns c = block-pairs
