-- Segments of a fourth of a line's machines.
use Rattle.std.proofs.Common.{◌≡◌, ◌≤◌, ◌<◌, ◌+◌, ◌*◌, ◌/◌, ◌%◌, ℕ, All, List, length, map, min, arith, subst}
use Rattle.std.proofs.lemmas.Grind.{common_steps}
use Rattle.std.proofs.lemmas.List.{length-map}
use Rattle.hc_segment.specs.Cutting.{AreSegmentSizes, fourth}

-- segments of a fourth are four at most
pub few-segments : (count size most number : ℕ) → count ≤ 4 * size → size ≤ most → 1 ≤ most → number ≡ count / most + min 1 (count % most) → number ≤ 4
few-segments count size most number fits wide some many = grind (arith, common_steps)

-- so machines are cut
pub cut-so : (count number size : ℕ) (segments : List (List (List ℕ))) → number ≤ 4 → size ≡ fourth count → length segments ≡ number → All (λ (n : ℕ). n ≤ size) (map (length {A = List ℕ}) segments)
    → AreSegmentSizes count (map (length {A = List ℕ}) segments)
cut-so count number size segments few is many small = record {
  few = omega (arith, length-map segments (length {A = List ℕ}), few, many);
  small = subst (λ (most : ℕ). All (λ (n : ℕ). n ≤ most) (map (length {A = List ℕ}) segments)) is small;
}
