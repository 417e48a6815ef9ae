-- An area is where it was, where its datagram is kept up to its key.
use Rattle.std.proofs.Common.{◌≡◌, ℕ, zero, suc, ◌+◌, ◌<◌, Bool, true, false, List, [], ◌∷◌, ◌++◌, length, Option, Some, None, refl, sym, ap, subst, ◌∙◌, arith, if◌then◌else◌}
use Rattle.std.specs.Prelude.{All, IsTrue, filter, find, slice_get, slice_index_or, ◌&&◌, not}
use Rattle.std.specs.Option.{option_map_or}
use Rattle.std.specs.List.{list_any}
use Rattle.std.proofs.lemmas.Bool.{and_parts, not-true}
use Rattle.std.proofs.lemmas.List.Elements.{All-cons, All-filter, All-weaker}
use Rattle.std.proofs.lemmas.List.Kept.{AllPairs-filter}
use Rattle.hc_records.specs.declared.keys.Key.{Key}
use Rattle.hc_records.specs.declared.keys.TheConstants.Key.{START, END}
use Rattle.hc_records.specs.Boundaries.{Interval, boundaries, is_settled, later_keys, spans, width_in}
use Rattle.hc_records.specs.Keys.{is_before, is_within, same_key}
use Rattle.hc_records.specs.Laws.{IsPackable}
use Rattle.hc_records.specs.Packing.{Front, packed}
use Rattle.hc_records.specs.SpanLaws.{IsTaskList, areas_from}
use Rattle.hc_records.specs.TaskList.{Keyed}
use Rattle.hc_records.proofs.lemmas.KeyOrder.{before-apart, before-else, before-other, before-trans, other-sym, same_key-same}
use Rattle.hc_records.proofs.lemmas.SettledSpans.{clear-agrees, meets_some}
use Rattle.hc_records.proofs.lemmas.SpanCuts.{areas-from, span-begins}
use Rattle.hc_records.proofs.lemmas.Spans.{Agree, IsListFrom, filter-drops, list-after_it, list-tail, width-absent}
use Rattle.hc_bitsum.proofs.lemmas.Widths.{answer_given-from, width-filter}
use Rattle.hc_cuts.specs.Keeping.{begins_at, is_unchanged_up_to}
use Rattle.hc_cuts.specs.Place.{has_key, place_of}
use Rattle.hc_cuts.specs.Walk.{blank_datagram}
use Rattle.hc_cuts.proofs.Placed.{none-found, skips-spans}
use Rattle.hc_cuts.proofs.Whole.{boundary, boundary-front, length-end, spans-begin}
use Rattle.hc_cuts.proofs.lemmas.Datagrams.{at-contained}

-- where the area with a key is packed follows from the areas up to it

abbrev up_to : Key → List Keyed → List Keyed
up_to key list = filter (λ area. is_within area.0 key) list

all-after_it : (first key : Key) (area : Keyed) (areas : List Keyed) → IsListFrom first (area ∷ areas) → is_before key area.0 ≡ true → All (λ a. is_before key a.0 ≡ true) (area ∷ areas)
all-after_it first key area areas is before =
    All-cons (λ a. is_before key a.0 ≡ true) area areas before
    (All-weaker (λ a. is_before area.0 a.0 ≡ true) (λ a. is_before key a.0 ≡ true) (λ a later. before-trans key area.0 a.0 before later) areas (list-after_it first area areas is))

found-by : (within : Bool) (first key : Key) (front : Front) (area : Keyed) (areas : List Keyed) → is_within area.0 key ≡ within → IsListFrom first (area ∷ areas)
    → ((next : Front) → find (has_key key) (packed next areas) ≡ find (has_key key) (packed next (up_to key areas)))
    → find (has_key key) (packed front (area ∷ areas)) ≡ find (has_key key) (packed front (if within then area ∷ up_to key areas else up_to key areas))
found-by true first key front area areas test is rest = grind arith
found-by false first key front area areas test is rest =
    let later = all-after_it first key area areas is (before-else key area.0 test) in
    let none : width_in (area ∷ areas) key ≡ 0 =
    width-absent (area ∷ areas) key
    (All-weaker (λ a. is_before key a.0 ≡ true) (λ a. same_key a.0 key ≡ false) (λ a before. before-other key a.0 before) (area ∷ areas) later) in
    let dropped : up_to key areas ≡ [] =
    filter-drops (λ a. is_within a.0 key) areas
    (All-weaker (λ a. is_before area.0 a.0 ≡ true) (λ a. is_within a.0 key ≡ false)
    (λ a after_it. before-apart key a.0 (before-trans key area.0 a.0 (before-else key area.0 test) after_it)) areas (list-after_it first area areas is)) in
    none-found key front (area ∷ areas) is.packable none
    ∙ sym (ap (λ (list : List Keyed). find (has_key key) (packed front list)) dropped)

found-up_to : (first key : Key) (front : Front) (list : List Keyed) → IsListFrom first list
    → find (has_key key) (packed front list) ≡ find (has_key key) (packed front (up_to key list))
found-up_to first key front [] is = refl
found-up_to first key front (area ∷ areas) is =
    found-by (is_within area.0 key) first key front area areas refl is (λ next. found-up_to first key next areas (list-tail first area areas is))

-- these are the same in two lists that give each key from one on up to another the same width

list-up_to : (first key : Key) (list : List Keyed) → IsListFrom first list → IsListFrom first (up_to key list)
list-up_to first key list is = record {
  packable = All-filter (λ area. is_within area.0 key) IsPackable list is.packable;
  ascends = AllPairs-filter (λ a b. IsTrue (is_before a.0 b.0)) (λ area. is_within area.0 key) list is.ascends;
  from = All-filter (λ area. is_within area.0 key) (λ area. is_within first area.0 ≡ true) list is.from;
  below = All-filter (λ area. is_within area.0 key) (λ area. is_before area.0 END ≡ true) list is.below;
}

same-by : (low high : Bool) (a b : ℕ) → (low ≡ true → high ≡ true → a ≡ b) → (if high then (if low then a else 0) else 0) ≡ (if high then (if low then b else 0) else 0)
same-by low high a b same = grind arith

width-between : (first last : Key) (list : List Keyed) (key : Key)
    → width_in (up_to last (areas_from first list)) key ≡ (if is_within key last then (if is_within first key then width_in list key else 0) else 0)
width-between first last list key =
    width-filter (λ k. is_within k last) (areas_from first list) key
    ∙ ap (λ (bits : ℕ). if is_within key last then bits else 0) (width-filter (λ k. is_within first k) list key)

same-between : (first last : Key) (old new : List Keyed) → IsTaskList old → IsTaskList new → Agree first last old new
    → up_to last (areas_from first old) ≡ up_to last (areas_from first new)
same-between first last old new is is' agree =
    answer_given-from first (up_to last (areas_from first old)) (up_to last (areas_from first new))
    (list-up_to first last (areas_from first old) (areas-from first old is)) (list-up_to first last (areas_from first new) (areas-from first new is'))
    (λ key. width-between first last old key
    ∙ same-by (is_within first key) (is_within key last) (width_in old key) (width_in new key) (λ low high. agree.at key low high)
    ∙ sym (width-between first last new key))

-- the place of an area in a task, given from the boundary with a number on
found-from : (at : ℕ) (list : List Keyed) (first key : Key) → IsTaskList list → at + 1 < length (boundaries list) → boundary (boundaries list) at ≡ first → is_within first key ≡ true
    → place_of key list ≡ find (has_key key) (packed (blank_datagram at) (up_to key (areas_from first list)))
found-from at list first key is within begins low =
    ap (find (has_key key)) (sym (spans-begin (boundaries list) list is refl))
    ∙ skips-spans at list key is within (subst (λ (k : Key). is_within k key ≡ true) (sym begins) low)
    ∙ ap (λ (k : Key). find (has_key key) (packed (blank_datagram at) (areas_from k list))) begins
    ∙ found-up_to first key (blank_datagram at) (areas_from first list) (areas-from first list is)

-- a span with a number begins at the boundary with that number
span-first : (keys : List Key) (at : ℕ) (span : Interval) → slice_get (spans keys) at ≡ Some span → (at + 1 < length keys) × (boundary keys at ≡ span.0)
span-first [] at span is = cc
span-first (first ∷ []) at span is = cc
span-first (first ∷ (next ∷ keys)) zero span is = (omega arith, let same : (first, next) ≡ span = cc in ap (λ (s : Interval). s.0) same)
span-first (first ∷ (next ∷ keys)) (suc at) span is = let rest = span-first (next ∷ keys) at span is in (omega (arith, rest), rest.1)

-- a boundary other than END isn't the last one
not-last : (starts : List Key) (at : ℕ) (key : Key) → option_map_or (same_key key) (slice_get (starts ++ END ∷ []) at) false ≡ true → same_key key END ≡ false
    → (at + 1 < length (starts ++ END ∷ [])) × (boundary (starts ++ END ∷ []) at ≡ key)
not-last [] zero key is other = cc
not-last [] (suc at) key is other = cc
not-last (first ∷ starts) zero key is other = let many = length-end starts in (omega (arith, many), sym (same_key-same key first is))
not-last (first ∷ starts) (suc at) key is other = let rest = not-last starts at key is other in (omega (arith, rest), rest.1)

unchanged-by : (old new : List Keyed) (datagram : ℕ) (key : Key) → IsTaskList old → IsTaskList new → (span : Option Interval) → slice_get (spans (boundaries new)) datagram ≡ span
    → option_map_or (λ s. is_settled old new (s.0, key) && begins_at old datagram s.0) span false ≡ true
    → is_within (slice_index_or (START ∷ later_keys new) datagram END) key ≡ true → place_of key old ≡ place_of key new
unchanged-by old new datagram key is is' None is_placed unchanged low = cc
unchanged-by old new datagram key is is' (Some span) is_placed unchanged low =
    let start = span.0 in
    let parts = and_parts (is_settled old new (start, key)) (begins_at old datagram start) unchanged in
    let settled = and_parts (list_any (same_key start) (boundaries old)) (not (meets_some old new (start, key))) parts.0 in
    let agree = clear-agrees old new (start, key) (not-true (meets_some old new (start, key)) settled.1) in
    let here = span-first (boundaries new) datagram span is_placed in
    let other = other-sym END start (before-other start END (span-begins new span is' (at-contained (spans (boundaries new)) datagram span is_placed))) in
    let there = not-last (START ∷ later_keys old) datagram start parts.1 other in
    let many = length-end (START ∷ later_keys new) in
    let front = boundary-front (START ∷ later_keys new) (END ∷ []) datagram END (omega (arith, here, many)) in
    let from : is_within start key ≡ true = subst (λ (k : Key). is_within k key ≡ true) (front ∙ here.1) low in
    found-from datagram old start key is there.0 there.1 from
    ∙ ap (λ (list : List Keyed). find (has_key key) (packed (blank_datagram datagram) list)) (same-between start key old new is is' agree)
    ∙ sym (found-from datagram new start key is' here.0 here.1 from)

-- by the number of the datagram that carries it, whose first key isn't after its own
pub unchanged-place : (old new : List Keyed) (datagram : ℕ) (key : Key) → IsTaskList old → IsTaskList new → is_unchanged_up_to old new datagram key ≡ true
    → is_within (slice_index_or (START ∷ later_keys new) datagram END) key ≡ true → place_of key old ≡ place_of key new
unchanged-place old new datagram key is is' unchanged low = unchanged-by old new datagram key is is' (slice_get (spans (boundaries new)) datagram) refl unchanged low
