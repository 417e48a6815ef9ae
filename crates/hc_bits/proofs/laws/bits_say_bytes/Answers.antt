use Rattle.hc_bits.proofs.Lists.{same_bytes}
use Rattle.hc_bits.proofs.laws.bits_say_bytes.Goals as goal

pub returns : goal.returns
returns c = same_bytes
