use Rattle.std.proofs.Common.{rules, ◌≡◌, ℕ, ◌+◌, ◌-◌, ◌<◌, length, take, drop, get_or, ap, ◌∙◌, arith}
use Rattle.std.specs.Int.{bit_at}
use Rattle.hc_bits.specs.Bits.{bit_of}
use Rattle.hc_bits.proofs.Runs.{bit_of-part, bit_at-from_le_bytes, part-small}
use Rattle.hc_bits.proofs.run.whole_word.Goals as goal

pub returns : goal.returns
returns c = λ k h.
    let a = c.args in
    let array = c.copy_from_slice.new.self in
    let count : a.first + 8 - a.first ≡ 8 = omega arith in
    let bytes : array ≡ take 8 (drop a.first a.bytes.now) = rw count at c.copy_from_slice.ensures.after in
    let eight : length array ≡ 8 = search rules in
    let small : (i : ℕ) → get_or array i 0 < 256 = λ i. rw bytes (part-small a.bytes.now (λ j. let f = c.type_inv.bytes j in search rules) a.first 8 i) in
    bit_at-from_le_bytes array c.from_le_bytes.result k eight small c.from_le_bytes.ensures h
    ∙ ap (λ xs. bit_of xs k) bytes ∙ bit_of-part a.bytes.now a.first 8 k (omega arith)
