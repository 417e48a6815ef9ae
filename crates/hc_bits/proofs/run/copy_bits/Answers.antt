use Rattle.std.proofs.Common.{◌≡◌, ℕ, ◌+◌, ◌-◌, ◌*◌, ◌%◌, refl, ap, ◌∙◌, arith}
use Rattle.std.specs.Int.{bit_at}
use Rattle.hc_bits.specs.Bits.{bit_of}
use Rattle.hc_bits.proofs.Runs.{ReplacesRun-then, ReplacesRun-as}
use Rattle.hc_bits.proofs.run.copy_bits.Goals as goal

pub returns : goal.returns
returns c =
    let a = c.args in
    let head = (8 - a.at2 % 8) % 8 in
    let count = c.copy_most-count.result in
    let rest = a.n - head - 8 * count in
    let run = λ (k : ℕ). bit_of a.from.now (a.at + k) in
    let along : (x y k : ℕ) → x ≡ a.at + y → bit_of a.from.now (x + k) ≡ run (y + k) =
    λ x y k e. ap (bit_of a.from.now) (let z : x + k ≡ a.at + (y + k) = omega arith in z) in
    let first = ReplacesRun-as _ _ a.at2 a.at2 head head (bit_at c.get_bits-2.result) run refl refl c.get_bits-2.ensures.bits c.put_bits-2.ensures in
    let middle = ReplacesRun-then _ _ _ a.at2 head _ (8 * count) (head + 8 * count) run _ (omega arith) refl first c.copy_most-count.ensures.bits
    (λ k h. along _ head k (omega arith)) in
    ReplacesRun-then _ _ _ a.at2 (head + 8 * count) _ rest a.n run (bit_at c.get_from-last.result) (omega arith) (omega arith) middle c.put_from.ensures
    (λ k h. c.get_from-last.ensures.bits k h ∙ along _ (head + 8 * count) k (omega arith))
