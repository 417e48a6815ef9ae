use Rattle.std.proofs.Common.{◌≡◌, ◌⊎◌, ◌+◌, ◌*◌, ◌<◌, ◌≤◌, ℕ, [], drop, get_or, length, min}
use Rattle.hc_bits.specs.Bits.{AreBytes, bit_of}
use Rattle.hc_images.specs.Packed.{offset_in, slot_bytes}
use Rattle.hc_images.proofs.outputs.post_datagrams.Given as goal

abbrev pub invariant-loop-number : goal.invariant-loop-number
invariant-loop-number l = record {
  own : (d k : ℕ) → d < l.number
      → bit_of (slot_bytes l.sent l.task d) k ≡ min (bit_of (drop (offset_in l.places l.task d) l.bytes) k) (bit_of (slot_bytes l.masks l.task d) k);
  bytes : (d : ℕ) → d < l.number → AreBytes (slot_bytes l.sent l.task d);
  rest : (n : ℕ) → (n < 16 * l.task) ⊎ (16 * l.task + l.number ≤ n) → get_or l.sent n [] ≡ get_or l.fn.sent n [];
  sizes : (n : ℕ) → length (get_or l.sent n []) ≡ length (get_or l.fn.sent n []);
}
