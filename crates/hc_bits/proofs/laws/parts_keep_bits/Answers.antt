use Rattle.hc_bits.proofs.lemmas.Places.{bit_of-take, bit_of-drop}
use Rattle.hc_bits.proofs.laws.parts_keep_bits.Goals as goal

pub returns : goal.returns
returns c = λ xs n k. (bit_of-take xs n k, bit_of-drop xs n k)
