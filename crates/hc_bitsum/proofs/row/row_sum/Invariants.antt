use Rattle.std.proofs.Common.{◌≡◌, ℕ, ◌+◌, ◌*◌, ◌<◌, ◌≤◌, false, take, [], ◌∷◌}
use Rattle.std.specs.Prelude.{slice_index}
use Rattle.hc_bitsum.specs.Rows.{row_areas}
use Rattle.hc_bitsum.specs.Sums.{sum_of}
use Rattle.hc_bitsum.proofs.Run.{run_of}
use Rattle.hc_bitsum.proofs.row.row_sum.Given as goal

abbrev pub invariant-loop-bits : goal.invariant-loop-bits
invariant-loop-bits l = record {
  low : (k : ℕ) → k < 8 → slice_index l.ends k ≤ k + 11895 * l.bits-index;
  fresh : l.is_run ≡ false → l.ends ≡ 0 ∷ 1 ∷ 2 ∷ 3 ∷ 4 ∷ 5 ∷ 6 ∷ 7 ∷ [];
  sum : (place : ℕ) → run_of l.is_run l.dir l.ends ≡ sum_of (row_areas l.dir place (take l.bits-index l.row));
}
