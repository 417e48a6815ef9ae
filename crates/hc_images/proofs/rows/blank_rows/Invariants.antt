use Rattle.std.proofs.Common.{◌≡◌, ◌<◌, ◌/◌, ◌%◌, ℕ, get_or, length, replicate, []}
use Rattle.hc_images.specs.Packed.{length_in}
use Rattle.hc_images.proofs.rows.blank_rows.Given as goal

abbrev pub invariant-loop-slot : goal.invariant-loop-slot
invariant-loop-slot l = record {
  count : length l.rows.items ≡ l.slot;
  zeros : (n : ℕ) → n < l.slot → get_or l.rows.items n [] ≡ replicate (length_in l.places (n / 16) (n % 16)) 0;
}
