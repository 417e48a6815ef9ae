-- The filling of a datagram by areas, some of them after others.
use Rattle.std.proofs.Common.{◌≡◌, List, [], ◌∷◌, ◌++◌, refl}
use Rattle.hc_records.specs.TaskList.{Keyed}
use Rattle.hc_bitsum.specs.declared.filled.Filled.{Filled}
use Rattle.hc_bitsum.specs.Filling.{filled_with_area, filled_with_areas}

pub with_areas-append : (filled : Filled) (xs ys : List Keyed) → filled_with_areas filled (xs ++ ys) ≡ filled_with_areas (filled_with_areas filled xs) ys
with_areas-append filled [] ys = refl
with_areas-append filled (x ∷ xs) ys = with_areas-append (filled_with_area filled x) xs ys
