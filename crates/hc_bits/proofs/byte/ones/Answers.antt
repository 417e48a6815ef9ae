use Rattle.hc_bits.proofs.Numbers.{ones_is}
use Rattle.hc_bits.proofs.byte.ones.Goals as goal

pub returns : goal.returns
returns c = ones_is c.args.n c.requires.within
