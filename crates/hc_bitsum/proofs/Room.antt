-- The ends of few areas lie low.
use Rattle.std.specs.Prelude.{All}
use Rattle.std.proofs.Common.{ℕ, ◌+◌, ◌*◌, ◌<◌, ◌≤◌, List, [], ◌∷◌, length, arith}
use Rattle.std.proofs.lemmas.List.Elements.{All-head, All-tail}
use Rattle.hc_records.specs.declared.records.Dir.TheVariants.{Out, In}
use Rattle.hc_records.specs.TaskList.{Keyed}
use Rattle.hc_bitsum.specs.declared.filled.Filled.{Filled}
use Rattle.hc_bitsum.specs.declared.sum.Sum.{Sum}
use Rattle.hc_bitsum.specs.declared.sum.Sum.TheVariants.{Empty, Run}
use Rattle.hc_bitsum.specs.Filling.{filled_with_area, filled_with_areas}
use Rattle.hc_bitsum.specs.Sums.{EndsBelow, filled_by_run, sum_of}
use Rattle.hc_bitsum.specs.Search.{datagram_begun}
use Rattle.hc_bitsum.specs.Slots.{IsNarrow}
use Rattle.hc_bitsum.proofs.Ends.{ended-sum_of}

-- an area takes at most its own bits and 7 more
pub with_areas-few : (areas : List Keyed) (filled : Filled) → All IsNarrow areas → (filled_with_areas filled areas).bit ≤ filled.bit + 11895 * length areas
with_areas-few [] filled h = omega arith
with_areas-few (area ∷ areas) filled h =
    grind (arith, All-head, All-tail, with_areas-few areas (filled_with_area filled area) (All-tail IsNarrow area areas h))

EndsBelow-run : (bit : ℕ) (sum : Sum) → ((start : ℕ) → start < 8 → (filled_by_run sum (datagram_begun start)).bit < bit) → EndsBelow bit sum
EndsBelow-run bit Empty h = tt
EndsBelow-run bit (Run Out last ends) h = h
EndsBelow-run bit (Run In last ends) h = h

-- the ends of few areas lie low
pub EndsBelow-sum_of : (bit : ℕ) (areas : List Keyed) → All IsNarrow areas → 7 + 11895 * length areas < bit → EndsBelow bit (sum_of areas)
EndsBelow-sum_of bit areas narrow h = grind (arith, EndsBelow-run, with_areas-few, ended-sum_of)
