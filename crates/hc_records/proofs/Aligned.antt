-- An area of 8 bits or more begins a byte.
use Rattle.std.proofs.Common.{◌≡◌, ℕ, ◌≤◌, ◌%◌, Bool, true, false, List, [], ◌∷◌, arith, if◌then◌else◌, refl}
use Rattle.std.specs.Prelude.{All, ◌||◌, nat_le}
use Rattle.std.proofs.lemmas.List.Elements.{All-nil, All-cons}
use Rattle.std.proofs.lemmas.Bool.Decides.{nat_tests}
use Rattle.hc_records.specs.Keys.{is_turn}
use Rattle.hc_records.specs.TaskList.{Keyed}
use Rattle.hc_records.specs.Packing.{Front, next_byte, fits, placed_at, front_with, packed}
use Rattle.hc_records.specs.Laws.{BeginsByte}
use Rattle.hc_records.proofs.lemmas.Packed.{place}

-- the border at or after a bit is a multiple of 8
begins_at : (wide turn : Bool) (bits bit : ℕ) → nat_le 8 bits ≡ wide → 8 ≤ bits → (if wide || turn then next_byte bit else bit) % 8 ≡ 0
begins_at true turn bits bit test eight = omega arith
begins_at false turn bits bit test eight = let few : bits ≤ 7 = grind (arith, nat_tests) in absurd (omega arith)

place-begins : (fitting : Bool) (front : Front) (area : Keyed) → BeginsByte (place fitting front area)
place-begins true front area eight = begins_at (nat_le 8 area.1) (is_turn front.last area.0.dir) area.1 front.bit refl eight
place-begins false front area eight = omega arith

pub packed-begins : (front : Front) (list : List Keyed) → All BeginsByte (packed front list)
packed-begins front [] = All-nil BeginsByte
packed-begins front (area ∷ areas) =
    All-cons BeginsByte (placed_at front area) (packed (front_with (placed_at front area)) areas)
    (place-begins (fits front area) front area)
    (packed-begins (front_with (placed_at front area)) areas)
