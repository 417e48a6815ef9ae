use Rattle.std.proofs.Common.{◌≡◌, ◌+◌, ◌-◌, ◌*◌, length, take, drop, refl, arith, length-take, length-drop}
use Rattle.hc_bits.specs.Bits.{bit_of}
use Rattle.hc_bits.proofs.Runs.{ReplacesRun-put, ReplacesRun-as, bit_of-part}
use Rattle.hc_bits.proofs.run.copy_bytes.Goals as goal

pub returns : goal.returns
returns c =
    let a = c.args in
    let part = take a.count (drop a.first a.from.now) in
    let count : a.first + a.count - a.first ≡ a.count = omega arith in
    let count2 : a.first2 + a.count - a.first2 ≡ a.count = omega arith in
    let bytes : c.copy_from_slice.new.self ≡ part = rw count at c.copy_from_slice.ensures.after in
    let whole : length part ≡ a.count = omega (arith, length-take a.count (drop a.first a.from.now), length-drop a.first a.from.now) in
    rw (count2, bytes) (ReplacesRun-as _ _ (8 * a.first2) (8 * a.first2) (8 * a.count) (8 * a.count) (bit_of part) (λ k. bit_of a.from.now (8 * a.first + k)) refl refl
    (bit_of-part a.from.now a.first a.count)
    (ReplacesRun-put a.to.now part a.first2 a.count c.requires.to_within whole))
