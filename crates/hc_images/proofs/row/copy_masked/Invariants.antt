use Rattle.std.proofs.Common.{◌≡◌, ◌<◌, ℕ, bit_and, get_or}
use Rattle.hc_images.proofs.row.copy_masked.Given as goal

abbrev pub invariant-loop-index : goal.invariant-loop-index
invariant-loop-index l = (i : ℕ) → i < l.index → get_or l.front i 0 ≡ bit_and (get_or l.bytes i 0) (get_or l.mask i 0)
