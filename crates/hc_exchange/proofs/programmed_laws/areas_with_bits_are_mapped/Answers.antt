use Rattle.hc_exchange.proofs.lemmas.Listed.{areas-mapped}
use Rattle.hc_exchange.proofs.programmed_laws.areas_with_bits_are_mapped.Goals as goal

pub returns : goal.returns
returns c = areas-mapped
