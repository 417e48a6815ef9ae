use Rattle.std.proofs.Common.{◌≡◌, ◌+◌, ◌-◌, ◌*◌, refl, ◌∙◌, arith}
use Rattle.std.specs.Int.{bit_at, to_le_bytes, w64}
use Rattle.hc_bits.specs.Bits.{bit_of}
use Rattle.hc_bits.proofs.Runs.{ReplacesRun-put, ReplacesRun-as, bit_of-to_le_bytes}
use Rattle.hc_bits.proofs.run.put_word.Goals as goal

pub returns : goal.returns
returns c =
    let a = c.args in
    let count : a.first + 8 - a.first ≡ 8 = omega arith in
    let bytes : c.copy_from_slice.new.self ≡ to_le_bytes w64 a.word = c.copy_from_slice.ensures.after ∙ c.to_le_bytes.ensures in
    rw (count, bytes) (ReplacesRun-as _ _ (8 * a.first) (8 * a.first) (8 * 8) 64 (bit_of (to_le_bytes w64 a.word)) (bit_at a.word) refl refl
    (bit_of-to_le_bytes a.word)
    (ReplacesRun-put a.bytes.now (to_le_bytes w64 a.word) a.first 8 c.requires refl))
