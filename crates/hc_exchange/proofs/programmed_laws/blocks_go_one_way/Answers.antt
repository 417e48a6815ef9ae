use Rattle.hc_exchange.proofs.lemmas.Decoded.{block-way}
use Rattle.hc_exchange.proofs.programmed_laws.blocks_go_one_way.Goals as goal

pub returns : goal.returns
returns c = block-way
