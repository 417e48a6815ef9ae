use Rattle.hc_bits.proofs.lemmas.Places.{bit_of-append_left, bit_of-append_right}
use Rattle.hc_bits.proofs.laws.joined_bits_follow.Goals as goal

pub returns : goal.returns
returns c = λ xs ys k. (bit_of-append_left xs ys k, bit_of-append_right xs ys k)
