use Rattle.hc_bits.proofs.Numbers.{lowest-bit}
use Rattle.hc_bits.proofs.word.lowest.Goals as goal

pub returns-clause-bits : goal.returns-clause-bits
returns-clause-bits c = λ k h. rw c.ones.ensures (lowest-bit c.args.word c.args.n k h)
