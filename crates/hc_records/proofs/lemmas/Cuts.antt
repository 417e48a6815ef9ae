-- The boundaries inside a list are the keys of the areas that don't fit.
use Rattle.std.proofs.Common.{◌≡◌, ℕ, ◌+◌, ◌<◌, ◌≤◌, ◌⊎◌, inl, inr, Bool, true, false, List, [], ◌∷◌, length, refl, ap, arith, if◌then◌else◌}
use Rattle.std.specs.Prelude.{All, filter, map, ◌&&◌, ◌==◌, nat_lt}
use Rattle.std.proofs.lemmas.Bool.Decides.{nat_tests}
use Rattle.std.proofs.lemmas.List.Elements.{All-head, All-tail}
use Rattle.hc_records.specs.declared.keys.Key.{Key}
use Rattle.hc_records.specs.TaskList.{Keyed}
use Rattle.hc_records.specs.Packing.{Front, Placed, empty_front, beginning, fits, placed_at, front_with, packed}
use Rattle.hc_records.specs.Image.{datagram_count}
use Rattle.hc_records.specs.Boundaries.{begins_later, later_keys}
use Rattle.hc_records.specs.Laws.{IsPackable, front_after, cuts_from}
use Rattle.hc_records.proofs.lemmas.Packed.{place}
use Rattle.hc_records.proofs.Apart.{beginning-after_it}
use Rattle.hc_records.proofs.Counts.{count-front_after}

-- the first datagram is being filled, or one that has a bit
abbrev pub IsBegun : Front → Type 0
IsBegun front = (front.datagram ≡ 0) ⊎ (0 < front.bit)

-- once an area with a width is in it
place-IsBegun : (fitting : Bool) (front : Front) (area : Keyed) → 0 < area.1 → IsBegun (front_with (place fitting front area))
place-IsBegun true front area some = inr (omega arith)
place-IsBegun false front area some = inr (omega arith)

after_it-IsBegun : (front : Front) (area : Keyed) → 0 < area.1 → IsBegun (front_with (placed_at front area))
after_it-IsBegun front area some = place-IsBegun (fits front area) front area some

pub front_after-IsBegun : (front : Front) (list : List Keyed) → IsBegun front → All IsPackable list → IsBegun (front_after front list)
front_after-IsBegun front [] begun all = begun
front_after-IsBegun front (area ∷ areas) begun all =
    front_after-IsBegun (front_with (placed_at front area)) areas (after_it-IsBegun front area (All-head IsPackable area areas all).some) (All-tail IsPackable area areas all)

later_not : (datagram bit front : ℕ) → (datagram ≡ 0) ⊎ (0 < front) → front ≤ bit → ((bit == 0) && nat_lt 0 datagram) ≡ false
later_not datagram bit front begun low = grind (arith, nat_tests)

-- an area that fits begins no later datagram, and one that doesn't begins one
pub fitting-begins : (front : Front) (area : Keyed) → IsBegun front → begins_later (place true front area) ≡ false
fitting-begins front area begun = later_not front.datagram (beginning front area) front.bit begun (beginning-after_it front area)

pub other-begins : (front : Front) (area : Keyed) → begins_later (place false front area) ≡ true
other-begins front area = grind (arith, nat_tests)

-- the keys of the areas where a later datagram begins
abbrev begun_keys : List Placed → List Key
begun_keys areas = map (λ area. area.key) (filter begins_later areas)

begun_keys-place : (fitting : Bool) (front : Front) (area : Keyed) (rest : List Placed) (keys : List Key) → IsBegun front → begun_keys rest ≡ keys →
    begun_keys (place fitting front area ∷ rest) ≡ (if fitting then keys else area.0 ∷ keys)
begun_keys-place true front area rest keys begun same = rw (fitting-begins front area begun) same
begun_keys-place false front area rest keys begun same = rw (other-begins front area) (ap (λ more. area.0 ∷ more) same)

begun_keys-packed : (front : Front) (list : List Keyed) → IsBegun front → All IsPackable list → begun_keys (packed front list) ≡ cuts_from front list
begun_keys-packed front [] begun all = refl
begun_keys-packed front (area ∷ areas) begun all =
    let front' = front_with (placed_at front area) in
    begun_keys-place (fits front area) front area (packed front' areas) (cuts_from front' areas) begun
    (begun_keys-packed front' areas (after_it-IsBegun front area (All-head IsPackable area areas all).some) (All-tail IsPackable area areas all))

pub later_keys-cuts : (list : List Keyed) → All IsPackable list → later_keys list ≡ cuts_from empty_front list
later_keys-cuts list all = begun_keys-packed empty_front list (inl refl) all

-- each cut begins one datagram more
cut-datagram : (fitting : Bool) (front : Front) (area : Keyed) (keys : List Key) (last : ℕ) → last ≡ (place fitting front area).datagram + length keys →
    last ≡ front.datagram + length (if fitting then keys else area.0 ∷ keys)
cut-datagram true front area keys last same = same
cut-datagram false front area keys last same = omega arith

cuts-datagram : (front : Front) (list : List Keyed) → (front_after front list).datagram ≡ front.datagram + length (cuts_from front list)
cuts-datagram front [] = omega arith
cuts-datagram front (area ∷ areas) =
    let front' = front_with (placed_at front area) in
    cut-datagram (fits front area) front area (cuts_from front' areas) (front_after front' areas).datagram (cuts-datagram front' areas)

pub count-cuts : (area : Keyed) (areas : List Keyed) → datagram_count (packed empty_front (area ∷ areas)) ≡ length (cuts_from empty_front (area ∷ areas)) + 1
count-cuts area areas =
    let last = count-front_after area areas in
    let cuts = cuts-datagram empty_front (area ∷ areas) in
    omega arith

pub count-later_keys : (area : Keyed) (areas : List Keyed) → All IsPackable (area ∷ areas) → datagram_count (packed empty_front (area ∷ areas)) ≡ length (later_keys (area ∷ areas)) + 1
count-later_keys area areas all =
    let count = count-cuts area areas in
    let same : length (later_keys (area ∷ areas)) ≡ length (cuts_from empty_front (area ∷ areas)) = ap length (later_keys-cuts (area ∷ areas) all) in
    omega arith
