use Rattle.hc_exchange.proofs.lemmas.Decoded.{block-unmapped}
use Rattle.hc_exchange.proofs.programmed_laws.unmapped_areas_pair_nothing.Goals as goal

pub returns : goal.returns
returns c = block-unmapped
