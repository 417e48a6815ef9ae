-- Each area of a list lies in its datagram.
use Rattle.std.proofs.Common.{◌≡◌, ◌+◌, ◌≤◌, Bool, true, false, List, [], ◌∷◌, refl, arith}
use Rattle.std.specs.Prelude.{All}
use Rattle.std.proofs.lemmas.Bool.{leb-true}
use Rattle.std.proofs.lemmas.List.Elements.{All-nil, All-cons, All-head, All-tail}
use Rattle.hc_records.specs.declared.limits.TheConstants.{MOST_AREA_BITS}
use Rattle.hc_records.specs.TaskList.{Keyed}
use Rattle.hc_records.specs.Packing.{Front, beginning, fits, placed_at, front_with, packed}
use Rattle.hc_records.specs.Laws.{IsPackable, LiesInside}
use Rattle.hc_records.proofs.lemmas.Packed.{place}

place-inside : (fitting : Bool) (front : Front) (area : Keyed) → fits front area ≡ fitting → area.1 ≤ MOST_AREA_BITS → LiesInside (place fitting front area)
place-inside true front area test narrow = leb-true (beginning front area + area.1) MOST_AREA_BITS test
place-inside false front area test narrow = omega arith

pub packed-inside : (front : Front) (list : List Keyed) → All IsPackable list → All LiesInside (packed front list)
packed-inside front [] all = All-nil LiesInside
packed-inside front (area ∷ areas) all =
    All-cons LiesInside (placed_at front area) (packed (front_with (placed_at front area)) areas)
    (place-inside (fits front area) front area refl (All-head IsPackable area areas all).narrow)
    (packed-inside (front_with (placed_at front area)) areas (All-tail IsPackable area areas all))
