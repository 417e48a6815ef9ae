use Rattle.std.proofs.Common.{◌≡◌, ℕ, ◌<◌, length, get_or}
use Rattle.hc_bitsum.specs.Sums.{end_from, start_at}
use Rattle.hc_bitsum.proofs.sum.ends_of_both.Given as goal

abbrev pub invariant-loop-bit : goal.invariant-loop-bit
invariant-loop-bit l = (length l.both ≡ 8) × ((k : ℕ) → k < l.bit → get_or l.both k 0 ≡ end_from l.laters (start_at l.turns (end_from l.ends k)))
