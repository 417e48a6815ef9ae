use Rattle.std.proofs.Common.{◌≡◌, ℕ, ◌+◌, ◌*◌, ◌/◌, ◌%◌, ◌<◌, ◌≤◌, length, refl, ap, ◌∙◌, arith}
use Rattle.std.specs.Int.{bit_at}
use Rattle.hc_bits.specs.Bits.{ReplacesRun}
use Rattle.hc_bits.proofs.Numbers.{part-bit}
use Rattle.hc_bits.proofs.Runs.{ReplacesRun-set, ReplacesRun-then, ReplacesRun-nothing}
use Rattle.hc_bits.proofs.run.put_from.Goals as goal

pub loop-done-init : goal.loop-done-init
loop-done-init c = record { within = omega arith; so_far = ReplacesRun-nothing _ _ _ }

pub loop-done-preserved : goal.loop-done-preserved
loop-done-preserved c =
    let a = c.args in
    let done = c.loop-done.done in
    let count = c.min-count.result in
    let place = a.at + done in
    let within : a.first + place / 8 < length c.loop-done.bytes = omega arith in
    let low : place % 8 + count ≤ 8 = omega arith in
    let there : 8 * (a.first + place / 8) + place % 8 ≡ 8 * a.first + place = omega arith in
    let next : 8 * a.first + a.at + done ≡ 8 * a.first + place = omega arith in
    let more = λ (k : ℕ). bit_at a.value (done + k) in
    let moved : (k : ℕ) → k < count → bit_at c.part_of-part.result k ≡ more k =
    λ k h. c.part_of-part.ensures.bits k h ∙ part-bit a.value done 8 (0 + k) (omega arith) ∙ ap (λ j. bit_at a.value (done + j)) (let z : 0 + k ≡ k = omega arith in z) in
    let one : ReplacesRun c.loop-done.bytes _ (8 * a.first + place) count more =
    ReplacesRun-set c.loop-done.bytes (a.first + place / 8) c.with_part.result (place % 8) count (8 * a.first + place) more within low there
    (λ k h. c.with_part.ensures.inside k h ∙ moved k h)
    c.with_part.ensures.before
    c.with_part.ensures.after in
    record {
      within = omega arith;
      so_far = ReplacesRun-then _ _ _ (8 * a.first + a.at) done (8 * a.first + place) count _ (bit_at a.value) more next refl c.loop-done.invariant.so_far one (λ k h. refl);
    }
