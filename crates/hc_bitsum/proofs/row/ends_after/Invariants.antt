use Rattle.std.proofs.Common.{◌≡◌, ℕ, ◌<◌, length, get_or}
use Rattle.std.specs.Prelude.{slice_index}
use Rattle.hc_bitsum.specs.Sums.{area_end}
use Rattle.hc_bitsum.proofs.row.ends_after.Given as goal

abbrev pub invariant-loop-bit : goal.invariant-loop-bit
invariant-loop-bit l = (length l.after_it ≡ 8) × ((k : ℕ) → k < l.bit → get_or l.after_it k 0 ≡ area_end l.bits (slice_index l.ends k))
