use Rattle.std.proofs.Common.{◌≡◌, ◌+◌, ◌*◌, ap, ◌∙◌, arith}
use Rattle.std.specs.Int.{bit_at}
use Rattle.hc_bits.specs.Bits.{bit_of}
use Rattle.hc_bits.proofs.Runs.{ReplacesRun-then, ReplacesRun-nothing}
use Rattle.hc_bits.proofs.run.copy_words.Goals as goal

pub loop-i-init : goal.loop-i-init
loop-i-init c = ReplacesRun-nothing _ _ _

pub loop-i-preserved : goal.loop-i-preserved
loop-i-preserved c =
    let a = c.args in
    let i = c.loop-i.i in
    ReplacesRun-then _ _ _ (8 * a.first2) (64 * i) (8 * (a.first2 + 8 * i)) 64 (64 * (i + 1)) (λ k. bit_of a.from.now (8 * a.first + a.at + k)) (bit_at c.word_at-word.result)
    (omega arith) (omega arith) c.loop-i.invariant c.put_word.ensures
    (λ k h. c.word_at-word.ensures k h ∙ ap (bit_of a.from.now) (let e : 8 * (a.first + 8 * i) + a.at + k ≡ 8 * a.first + a.at + (64 * i + k) = omega arith in e))
