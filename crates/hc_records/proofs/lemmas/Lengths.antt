-- Each datagram of a list has a bit, and no more bits than the longest one's data.
use Rattle.std.proofs.Common.{◌≡◌, ◌≢◌, ℕ, ◌+◌, ◌/◌, ◌<◌, ◌≤◌, zero, suc, Bool, true, false, List, [], ◌∷◌, refl, ap, arith, if◌then◌else◌}
use Rattle.std.specs.Prelude.{All, max, nat_le, ◌==◌, ◌||◌}
use Rattle.std.proofs.lemmas.Bool.{eqb-false, le-leb}
use Rattle.std.proofs.lemmas.List.Elements.{All-head, All-tail, All-filter}
use Rattle.hc_records.specs.declared.limits.TheConstants.{MOST_AREA_BITS, MOST_DATAGRAM_BYTES}
use Rattle.hc_records.specs.Keys.{is_turn}
use Rattle.hc_records.specs.TaskList.{Keyed}
use Rattle.hc_records.specs.Packing.{Front, Placed, empty_front, next_byte, beginning, fits, placed_at, front_with, packed}
use Rattle.hc_records.specs.Image.{inside, end_of, datagram_count, datagram_length}
use Rattle.hc_records.specs.Laws.{IsPackable, LiesInside, IsDatagramLength, front_after}
use Rattle.hc_records.proofs.lemmas.Greatest.{greatest, greatest-first, greatest-most}
use Rattle.hc_records.proofs.lemmas.Packed.{place}
use Rattle.hc_records.proofs.lemmas.Inside.{packed-inside}
use Rattle.hc_records.proofs.Counts.{count-front_after}

-- the first bit after an area
abbrev pub bit_after : Placed → ℕ
bit_after area = area.bit + area.bits

-- an area with a width in the datagram is a bit of it; else a later area is
reached-here : (here : Bool) (end datagram : ℕ) (area : Placed) (rest : List Placed) → (area.datagram == datagram) ≡ here → 0 < area.bits →
    (area.datagram ≢ datagram → 0 < greatest bit_after end (inside datagram rest)) → 0 < greatest bit_after end (inside datagram (area ∷ rest))
reached-here true end datagram area rest test some later =
    let least = greatest-first bit_after (max end (bit_after area)) (inside datagram rest) in
    rw test (omega arith)
reached-here false end datagram area rest test some later = rw test (later (eqb-false area.datagram datagram test))

place-datagram : (fitting : Bool) (front : Front) (area : Keyed) → (place fitting front area).datagram ≤ front.datagram + 1
place-datagram true front area = omega arith
place-datagram false front area = omega arith

place-bits : (fitting : Bool) (front : Front) (area : Keyed) → (place fitting front area).bits ≡ area.1
place-bits true front area = refl
place-bits false front area = refl

-- a datagram after the one being filled, up to the last one, has a bit
reached-some : (front : Front) (list : List Keyed) (datagram end : ℕ) → All IsPackable list → front.datagram < datagram → datagram ≤ (front_after front list).datagram →
    0 < greatest bit_after end (inside datagram (packed front list))
reached-some front [] datagram end all low high = absurd (omega arith)
reached-some front (area ∷ areas) datagram end all low high =
    let placed = placed_at front area in
    let next : placed.datagram ≤ front.datagram + 1 = place-datagram (fits front area) front area in
    let bits : placed.bits ≡ area.1 = place-bits (fits front area) front area in
    let some = (All-head IsPackable area areas all).some in
    reached-here (placed.datagram == datagram) end datagram placed (packed (front_with placed) areas) refl (omega arith)
    (λ other. reached-some (front_with placed) areas datagram end (All-tail IsPackable area areas all) (omega arith) high)

-- the first area begins at bit 0, where it fits if it is no wider than a datagram
first_by : (aligned : Bool) → (if aligned then next_byte 0 else 0) ≡ 0
first_by true = refl
first_by false = refl

pub opening-beginning : (area : Keyed) → beginning empty_front area ≡ 0
opening-beginning area = first_by (nat_le 8 area.1 || is_turn empty_front.last area.0.dir)

pub opening-fits : (area : Keyed) → area.1 ≤ MOST_AREA_BITS → fits empty_front area ≡ true
opening-fits area narrow = let first = opening-beginning area in le-leb (beginning empty_front area + area.1) MOST_AREA_BITS (omega arith)

opening-datagram : (area : Keyed) → area.1 ≤ MOST_AREA_BITS → (placed_at empty_front area).datagram ≡ 0
opening-datagram area narrow = ap (λ fitting. (place fitting empty_front area).datagram) (opening-fits area narrow)

-- each datagram of a list has a bit
end_of-some : (list : List Keyed) (datagram : ℕ) → All IsPackable list → datagram < datagram_count (packed empty_front list) → 0 < end_of (inside datagram (packed empty_front list))
end_of-some [] datagram all within = absurd (omega arith)
end_of-some (area ∷ areas) zero all within =
    let packable = All-head IsPackable area areas all in
    let narrow = packable.narrow in
    let some = packable.some in
    let placed = placed_at empty_front area in
    let first : placed.datagram ≡ 0 = opening-datagram area narrow in
    let bits : placed.bits ≡ area.1 = place-bits (fits empty_front area) empty_front area in
    reached-here (placed.datagram == 0) 0 0 placed (packed (front_with placed) areas) refl (omega arith) (λ other. absurd (other first))
end_of-some (area ∷ areas) (suc datagram) all within =
    let count = count-front_after area areas in
    reached-some empty_front (area ∷ areas) (suc datagram) 0 all (omega arith) (omega arith)

bytes-some : (end : ℕ) → 0 < end → 1 ≤ (end + 7) / 8
bytes-some end some = omega arith

bytes-most : (end : ℕ) → end ≤ MOST_AREA_BITS → (end + 7) / 8 ≤ MOST_DATAGRAM_BYTES
bytes-most end most = omega arith

pub length-sendable : (list : List Keyed) (datagram : ℕ) → All IsPackable list → datagram < datagram_count (packed empty_front list) →
    IsDatagramLength (datagram_length (packed empty_front list) datagram)
length-sendable list datagram all within =
    let areas = packed empty_front list in
    let lie : All LiesInside (inside datagram areas) = All-filter (λ area. area.datagram == datagram) LiesInside areas (packed-inside empty_front list all) in
    record {
      some = bytes-some (end_of (inside datagram areas)) (end_of-some list datagram all within);
      most = bytes-most (end_of (inside datagram areas)) (greatest-most bit_after 0 MOST_AREA_BITS (inside datagram areas) (omega arith) lie);
    }
