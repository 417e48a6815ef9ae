use Rattle.hc_bits.proofs.lemmas.Places.{bit_of-zeros}
use Rattle.hc_bits.proofs.laws.zeros_have_no_bits.Goals as goal

pub returns : goal.returns
returns c = bit_of-zeros
