use Rattle.hc_bits.proofs.Numbers.{part-bit}
use Rattle.hc_bits.proofs.byte.part_of.Goals as goal

pub returns-clause-bits : goal.returns-clause-bits
returns-clause-bits c = λ k h. rw c.ones.ensures (part-bit c.args.byte c.args.at c.args.n k h)
