-- The first keys of a list, by its first area and the cuts after it.
use Rattle.std.proofs.Common.{◌≡◌, ◌-◌, ◌<◌, [], take, drop, Bool, true, List, ◌∷◌, ◌++◌, length, sym, ap, ◌∙◌, arith, if◌then◌else◌}
use Rattle.std.specs.Prelude.{All, slice_index_or}
use Rattle.std.proofs.lemmas.List.{take_rest}
use Rattle.std.proofs.lemmas.List.Elements.{All-head}
use Rattle.hc_records.specs.declared.keys.Key.{Key}
use Rattle.hc_records.specs.TaskList.{Keyed}
use Rattle.hc_records.specs.Packing.{Front, Placed, empty_front, fits, placed_at, front_with, packed}
use Rattle.hc_records.specs.Image.{datagram_count}
use Rattle.hc_records.specs.Laws.{IsPackable, cuts_from}
use Rattle.hc_records.proofs.lemmas.Cuts.{later_keys-cuts, count-later_keys}
use Rattle.hc_records.proofs.lemmas.Lengths.{opening-fits}
use Rattle.hc_cuts.specs.Firsts.{first_keys}

first_by : (fitting : Bool) (rest : List Key) (key : Key) → fitting ≡ true → (if fitting then rest else key ∷ rest) ≡ rest
first_by fitting rest key test = grind arith

-- the first area fits the empty datagram, so no cut is made at it
first_keys-cuts : (area : Keyed) (areas : List Keyed) → All IsPackable (area ∷ areas)
    → first_keys (area ∷ areas) ≡ area.0 ∷ cuts_from (front_with (placed_at empty_front area)) areas
first_keys-cuts area areas all =
    let narrow = (All-head IsPackable area areas all).narrow in
    ap (λ keys. area.0 ∷ keys)
    (later_keys-cuts (area ∷ areas) all
    ∙ first_by (fits empty_front area) (cuts_from (front_with (placed_at empty_front area)) areas) area.0 (opening-fits area narrow))

-- there is one for each datagram

-- the same of a list with a first area, in the words of a slice
first_keys-rest : (list : List Keyed) (d : Keyed) → 0 < length list → All IsPackable list
    → first_keys list ≡ (slice_index_or list 0 d).0 ∷ cuts_from (front_with (placed_at empty_front (slice_index_or list 0 d))) (drop 1 list)
first_keys-rest [] d some all = absurd (omega arith)
first_keys-rest (area ∷ areas) d some all = first_keys-cuts area areas all

length-first_keys-rest : (list : List Keyed) (d : Keyed) → 0 < length list → All IsPackable list
    → datagram_count (packed empty_front list)
    ≡ length ((slice_index_or list 0 d).0 ∷ cuts_from (front_with (placed_at empty_front (slice_index_or list 0 d))) (drop 1 list))
length-first_keys-rest [] d some all = absurd (omega arith)
length-first_keys-rest (area ∷ areas) d some all = grind (arith, count-later_keys, first_keys-cuts)

-- what is of a list once its first area's key, and the cuts after it, were added to no keys
pub record AddsAll (list : List Keyed) (d : Keyed) (added pushed new : List Key) (begun front : Front) (place : Placed) : Type 0 where
  pub some : 0 < length list
  pub packable : All IsPackable list
  pub empty : new ≡ []
  pub first : pushed ≡ new ++ (slice_index_or list 0 d).0 ∷ []
  pub opens : begun ≡ empty_front
  pub is_placed : place ≡ placed_at begun (slice_index_or list 0 d)
  pub goes_on : front ≡ front_with place
  pub rest : added ≡ pushed ++ cuts_from front (take (length list - 1) (drop 1 list))

pub added-first_keys : (list : List Keyed) (d : Keyed) (added pushed new : List Key) (begun front : Front) (place : Placed)
    → AddsAll list d added pushed new begun front place → added ≡ first_keys list
added-first_keys list d added pushed new begun front place a =
    rw (a.rest, a.first, a.empty, a.goes_on, a.is_placed, a.opens, take_rest list 1) (sym (first_keys-rest list d a.some a.packable))

pub count-added : (list : List Keyed) (d : Keyed) (added pushed new : List Key) (begun front : Front) (place : Placed)
    → AddsAll list d added pushed new begun front place → datagram_count (packed empty_front list) ≡ length added
count-added list d added pushed new begun front place a =
    length-first_keys-rest list d a.some a.packable
    ∙ ap length (sym (first_keys-rest list d a.some a.packable) ∙ sym (added-first_keys list d added pushed new begun front place a))
