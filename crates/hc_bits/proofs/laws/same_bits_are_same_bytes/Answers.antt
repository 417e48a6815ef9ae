use Rattle.hc_bits.proofs.lemmas.Places.{same_bytes_from_bits}
use Rattle.hc_bits.proofs.laws.same_bits_are_same_bytes.Goals as goal

pub returns : goal.returns
returns c = same_bytes_from_bits
