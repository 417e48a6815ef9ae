-- Each area of a list is after the ones before it.
use Rattle.std.proofs.Common.{◌≡◌, ℕ, ◌<◌, ◌≤◌, ◌⊎◌, inl, inr, Bool, true, false, List, [], ◌∷◌, refl, arith, if◌then◌else◌}
use Rattle.std.specs.Prelude.{All, AllPairs, ◌||◌, nat_le}
use Rattle.std.proofs.lemmas.List.Elements.{All-nil, All-cons, All-weaker}
use Rattle.std.proofs.lemmas.List.Kept.{AllPairs-cons}
use Rattle.hc_records.specs.Keys.{is_turn}
use Rattle.hc_records.specs.TaskList.{Keyed}
use Rattle.hc_records.specs.Packing.{Front, Placed, next_byte, beginning, fits, placed_at, front_with, packed}
use Rattle.hc_records.specs.Laws.{LiesBefore}
use Rattle.hc_records.proofs.lemmas.Packed.{place}

begins_by : (aligned : Bool) (bit : ℕ) → bit ≤ (if aligned then next_byte bit else bit)
begins_by true bit = omega arith
begins_by false bit = omega arith

-- an area begins at the first free bit or after it
pub beginning-after_it : (front : Front) (area : Keyed) → front.bit ≤ beginning front area
beginning-after_it front area = begins_by (nat_le 8 area.1 || is_turn front.last area.0.dir) front.bit

-- a place at the first free bit or after it, in this datagram or a later one
abbrev IsAfter : Front → Placed → Type 0
IsAfter front placed = (front.datagram < placed.datagram) ⊎ ((front.datagram ≡ placed.datagram) × (front.bit ≤ placed.bit))

place-IsAfter : (fitting : Bool) (front : Front) (area : Keyed) → IsAfter front (place fitting front area)
place-IsAfter true front area = inr (refl, beginning-after_it front area)
place-IsAfter false front area = inl (omega arith)

-- what is after a place is after what the place is after
IsAfter-trans : (front : Front) (first second : Placed) → IsAfter front first → IsAfter (front_with first) second → IsAfter front second
IsAfter-trans front first second (inl low) (inl high) = inl (omega arith)
IsAfter-trans front first second (inl low) (inr high) = inl (omega arith)
IsAfter-trans front first second (inr low) (inl high) = inl (omega arith)
IsAfter-trans front first second (inr low) (inr high) = inr (omega arith, omega arith)

packed-IsAfter : (front : Front) (list : List Keyed) → All (IsAfter front) (packed front list)
packed-IsAfter front [] = All-nil (IsAfter front)
packed-IsAfter front (area ∷ areas) =
    let first = placed_at front area in
    let here : IsAfter front first = place-IsAfter (fits front area) front area in
    All-cons (IsAfter front) first (packed (front_with first) areas) here
    (All-weaker (IsAfter (front_with first)) (IsAfter front) (λ second. IsAfter-trans front first second here)
    (packed (front_with first) areas) (packed-IsAfter (front_with first) areas))

pub packed-apart : (front : Front) (list : List Keyed) → AllPairs LiesBefore (packed front list)
packed-apart front [] = λ i j d lower within. absurd (omega arith)
packed-apart front (area ∷ areas) =
    let first = placed_at front area in
    AllPairs-cons LiesBefore first (packed (front_with first) areas) (packed-IsAfter (front_with first) areas) (packed-apart (front_with first) areas)
