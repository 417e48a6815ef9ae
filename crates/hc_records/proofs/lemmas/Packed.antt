-- The places of a list are its areas'.
use Rattle.std.proofs.Common.{◌≡◌, ◌+◌, Bool, true, false, List, [], ◌∷◌, ◌++◌, refl, ap}
use Rattle.std.specs.Prelude.{map, if◌then◌else◌}
use Rattle.hc_records.specs.TaskList.{Keyed}
use Rattle.hc_records.specs.Packing.{Front, Placed, beginning, fits, placed_at, front_with, packed}
use Rattle.hc_records.specs.Laws.{front_after}

-- the place of an area that fits, or doesn't
abbrev pub place : Bool → Front → Keyed → Placed
place fitting front area =
    if fitting
    then record { key = area.0; bits = area.1; datagram = front.datagram; bit = beginning front area }
    else record { key = area.0; bits = area.1; datagram = front.datagram + 1; bit = 0 }

-- the area that a place is of
abbrev pub area_of : Placed → Keyed
area_of placed = (placed.key, placed.bits)

place-area_of : (fitting : Bool) (front : Front) (area : Keyed) → area_of (place fitting front area) ≡ area
place-area_of true front area = refl
place-area_of false front area = refl

pub packed-areas : (front : Front) (list : List Keyed) → map area_of (packed front list) ≡ list
packed-areas front [] = refl
packed-areas front (area ∷ areas) =
    let one : area_of (placed_at front area) ≡ area = place-area_of (fits front area) front area in
    let rest = packed-areas (front_with (placed_at front area)) areas in
    cc

-- a list joined to another is packed after it
pub packed-append : (front : Front) (first second : List Keyed) → packed front (first ++ second) ≡ packed front first ++ packed (front_after front first) second
packed-append front [] second = refl
packed-append front (area ∷ first) second = ap (λ rest. placed_at front area ∷ rest) (packed-append (front_with (placed_at front area)) first second)
