use Rattle.std.proofs.Common.{◌≡◌, ℕ, ◌+◌, ◌-◌, ◌*◌, ◌/◌, ap, arith}
use Rattle.hc_bits.specs.Bits.{bit_of}
use Rattle.hc_bits.proofs.Runs.{ReplacesRun-then}
use Rattle.hc_bits.proofs.run.copy_most.Goals as goal

pub returns-else-at-eq0-clause-bits : goal.returns-else-at-eq0-clause-bits
returns-else-at-eq0-clause-bits c =
    let a = c.args in
    let words = a.n / 64 in
    let done = 8 * words in
    let run = λ (k : ℕ). bit_of a.from.now (8 * a.first + a.at + k) in
    ReplacesRun-then _ _ _ (8 * a.first2) (64 * words) (8 * (a.first2 + done)) (8 * (a.n / 8 - done)) (8 * (a.n / 8)) run (λ k. bit_of a.from.now (8 * (a.first + done) + a.at + k))
    (omega arith) (omega arith) c.copy_words.ensures c.copy_octets.ensures
    (λ k h. ap (bit_of a.from.now) (let e : 8 * (a.first + done) + a.at + k ≡ 8 * a.first + a.at + (64 * words + k) = omega arith in e))
