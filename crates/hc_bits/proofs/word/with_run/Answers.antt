use Rattle.std.specs.Int.{w64}
use Rattle.hc_bits.proofs.Numbers.{replaced_in-inside, replaced_in-before, replaced_in-after}
use Rattle.hc_bits.proofs.word.with_run.Goals as goal

pub returns-clause-inside : goal.returns-clause-inside
returns-clause-inside c = λ k h.
    let a = c.args in
    rw c.ones.ensures (replaced_in-inside w64 a.word a.at a.n a.part k c.requires.within c.requires.fits h)

pub returns-clause-before : goal.returns-clause-before
returns-clause-before c = λ k h.
    let a = c.args in
    rw c.ones.ensures (replaced_in-before w64 a.word a.at a.n a.part k c.requires.within c.requires.fits h)

pub returns-clause-after : goal.returns-clause-after
returns-clause-after c = λ k h low.
    let a = c.args in
    rw c.ones.ensures (replaced_in-after w64 a.word a.at a.n a.part k c.requires.within c.requires.fits h low)
