-- An area is in the datagram of the span that its key lies in, after the areas of the span before it.
use Rattle.std.specs.Prelude.{All, find, Option, Some, None, slice_index_or}
use Rattle.std.proofs.Common.{◌≡◌, ℕ, zero, suc, ◌+◌, ◌<◌, ◌≤◌, ◌==◌, Bool, true, false, List, [], ◌∷◌, ◌++◌, length, refl, sym, ap, subst, ◌∙◌, arith, if◌then◌else◌}
use Rattle.std.proofs.lemmas.Bool.{cond-true}
use Rattle.std.proofs.lemmas.Bool.Decides.{nat_tests}
use Rattle.std.proofs.lemmas.List.Elements.{All-cons, All-head, All-nil, All-tail, All-weaker}
use Rattle.hc_records.specs.declared.limits.TheConstants.{MOST_AREA_BITS}
use Rattle.hc_records.specs.declared.records.Dir.TheVariants.{Out}
use Rattle.hc_records.specs.declared.keys.Key.{Key}
use Rattle.hc_records.specs.declared.keys.TheConstants.Key.{END}
use Rattle.hc_records.specs.Keys.{is_before, is_within, same_key}
use Rattle.hc_records.specs.TaskList.{Keyed}
use Rattle.hc_records.specs.Boundaries.{boundaries, width_in}
use Rattle.hc_records.specs.Packing.{Front, Placed, front_with, fits, packed, placed_at}
use Rattle.hc_records.specs.Laws.{IsPackable}
use Rattle.hc_records.specs.SpanLaws.{IsTaskList, areas_from, places_in_span, next_cut}
use Rattle.hc_records.proofs.lemmas.KeyOrder.{same_key-same, within-apart, within-from_before, within-refl, within-trans}
use Rattle.hc_records.proofs.lemmas.Packed.{place}
use Rattle.hc_records.proofs.lemmas.SettledSpans.{width-from}
use Rattle.hc_records.proofs.lemmas.SpanCuts.{areas-from}
use Rattle.hc_records.proofs.lemmas.Spans.{IsListFrom, cut-all, filter-drops, list-after_it, list-tail, place-key, width-here, width-skip}
use Rattle.hc_bitsum.specs.declared.filled.Filled.{Filled}
use Rattle.hc_bitsum.specs.Filling.{areas_between, filled_with_area, filled_with_areas}
use Rattle.hc_bitsum.specs.Tree.{HoldsTaskList, Tree}
use Rattle.hc_cuts.specs.Cursors.{unfilled}
use Rattle.hc_cuts.specs.Place.{has_key, place_of}
use Rattle.hc_cuts.specs.Walk.{blank_datagram, filled_datagram, span_places}
use Rattle.hc_cuts.proofs.Searched.{boundary-cut}
use Rattle.hc_cuts.proofs.Walked.{cut-number, cuts-on, keyed-is, before_cut}
use Rattle.hc_cuts.proofs.Whole.{before-end, boundary, boundary-front, length-end, next-at, places_from, span-places, spans-begin}

-- what is found in a list

found-here : (test : Placed → Bool) (placed : Placed) (rest : List Placed) → test placed ≡ true → find test (placed ∷ rest) ≡ Some placed
found-here test placed rest is = rw is refl

found-after_it : (test : Placed → Bool) (placed : Placed) (rest : List Placed) → test placed ≡ false → find test (placed ∷ rest) ≡ find test rest
found-after_it test placed rest other = rw other refl

found-later : (test : Placed → Bool) (places rest : List Placed) → All (λ placed. test placed ≡ false) places → find test (places ++ rest) ≡ find test rest
found-later test [] rest all = refl
found-later test (placed ∷ places) rest all =
    grind (arith, found-after_it, All-head, All-tail, found-later test places rest (All-tail (λ p. test p ≡ false) placed places all))

-- what holds of each key of a list holds of one that has a width in it

width-holds : (P : Key → Type 0) (key : Key) (list : List Keyed) → All (λ area. P area.0) list → 0 < width_in list key → P key
width-holds P key [] all some = absurd (omega arith)
width-holds P key (area ∷ areas) all some =
    grind (arith, All-head, All-tail, width-holds P key areas (All-tail (λ a. P a.0) area areas all))

-- a key without a width has no place

pub none-found : (key : Key) (front : Front) (list : List Keyed) → All IsPackable list → width_in list key ≡ 0 → find (has_key key) (packed front list) ≡ None
none-found key front [] all none = refl
none-found key front (area ∷ areas) all none =
    grind (arith, All-head, All-tail, none-found key (front_with (placed_at front area)) areas (All-tail IsPackable area areas all))

-- a key with a width is where its area is placed after those before it

-- the area fits where it is placed, and that is its place
pub record IsPlacedAt (front : Front) (area : Keyed) (found : Option Placed) : Type 0 where
  pub room : fits front area ≡ true
  pub place : found ≡ Some (placed_at front area)

abbrev IsPlaced : ℕ → Filled → Key → ℕ → List Keyed → Type 0
IsPlaced datagram filled key bits list =
    IsPlacedAt (filled_datagram datagram (filled_with_areas filled (before_cut key list))) (key, bits) (find (has_key key) (packed (filled_datagram datagram filled) list))

-- where the next cut comes after an area, the area fits
fits-before : (fitting : Bool) (next own key : Key) → is_within own key ≡ true → is_before key (if fitting then next else own) ≡ true → fitting ≡ true
fits-before fitting next own key low before = grind arith

pub none-before : (key : Key) (areas : List Keyed) → All (λ area. is_within key area.0 ≡ true) areas → before_cut key areas ≡ []
none-before key areas all = grind (arith, filter-drops, All-weaker, within-apart)

is_placed-here : (datagram : ℕ) (filled : Filled) (key first : Key) (bits : ℕ) (area : Keyed) (areas : List Keyed) → IsListFrom first (area ∷ areas) → same_key area.0 key ≡ true
    → width_in (area ∷ areas) key ≡ bits → is_before key (next_cut (filled_datagram datagram filled) (area ∷ areas)) ≡ true → IsPlaced datagram filled key bits (area ∷ areas)
is_placed-here datagram filled key first bits area areas is test width before =
    let front = filled_datagram datagram filled in
    let here : area.0 ≡ key = same_key-same area.0 key test in
    let own : (key, bits) ≡ area = keyed-is area key bits here (sym width ∙ width-here area areas key test) in
    let low : is_within area.0 key ≡ true = ap (is_within area.0) (sym here) ∙ within-refl area.0 in
    let high : is_within key area.0 ≡ true = ap (is_within key) here ∙ within-refl key in
    let none : before_cut key (area ∷ areas) ≡ [] =
    none-before key (area ∷ areas)
    (All-cons (λ a. is_within key a.0 ≡ true) area areas high
    (All-weaker (λ a. is_before area.0 a.0 ≡ true) (λ a. is_within key a.0 ≡ true) (λ a later. subst (λ (k : Key). is_within k a.0 ≡ true) here (within-from_before area.0 a.0 later)) areas
    (list-after_it first area areas is))) in
    let room : fits front area ≡ true = fits-before (fits front area) (next_cut (front_with (placed_at front area)) areas) area.0 key low before in
    record {
      room = ap (λ (l : List Keyed). fits (filled_datagram datagram (filled_with_areas filled l)) (key, bits)) none ∙ ap (fits front) own ∙ room;
      place =
          found-here (has_key key) (placed_at front area) (packed (front_with (placed_at front area)) areas)
          (ap (λ (k : Key). same_key k key) (place-key (fits front area) front area) ∙ test)
          ∙ ap (λ (a : Keyed). Some (placed_at front a)) (sym own)
          ∙ ap (λ (l : List Keyed). Some (placed_at (filled_datagram datagram (filled_with_areas filled l)) (key, bits))) (sym none);
    }

after_it-is : (fitting : Bool) (datagram : ℕ) (filled : Filled) (area : Keyed) → fitting ≡ true → (area.1 == 0) ≡ false
    → front_with (place fitting (filled_datagram datagram filled) area) ≡ filled_datagram datagram (filled_with_area filled area)
after_it-is fitting datagram filled area test wide = grind arith

-- an area before it that fits is before it
is_placed-after_it : (datagram : ℕ) (filled : Filled) (key first : Key) (bits : ℕ) (area : Keyed) (areas : List Keyed) → IsListFrom first (area ∷ areas) → same_key area.0 key ≡ false
    → width_in (area ∷ areas) key ≡ bits → 0 < bits → is_before key (next_cut (filled_datagram datagram filled) (area ∷ areas)) ≡ true
    → ((so_far : Filled) → width_in areas key ≡ bits → is_before key (next_cut (filled_datagram datagram so_far) areas) ≡ true → IsPlaced datagram so_far key bits areas)
    → IsPlaced datagram filled key bits (area ∷ areas)
is_placed-after_it datagram filled key first bits area areas is test width some before later =
    let front = filled_datagram datagram filled in
    let so_far = filled_with_area filled area in
    let width' : width_in areas key ≡ bits = sym (width-skip area areas key test) ∙ width in
    let many : 0 < width_in areas key = subst (λ (n : ℕ). 0 < n) (sym width') some in
    let earlier : is_before area.0 key ≡ true = width-holds (λ k. is_before area.0 k ≡ true) key areas (list-after_it first area areas is) many in
    let room : fits front area ≡ true =
    fits-before (fits front area) (next_cut (front_with (placed_at front area)) areas) area.0 key (within-from_before area.0 key earlier) before in
    let packable = (All-head IsPackable area areas is.packable).some in
    let wide : (area.1 == 0) ≡ false = grind (arith, nat_tests) in
    let goes : front_with (placed_at front area) ≡ filled_datagram datagram so_far = after_it-is (fits front area) datagram filled area room wide in
    let cut : next_cut front (area ∷ areas) ≡ next_cut (filled_datagram datagram so_far) areas =
    cuts-on (fits front area) (next_cut (front_with (placed_at front area)) areas) area.0 room ∙ ap (λ (f : Front). next_cut f areas) goes in
    let rest = later so_far width' (subst (λ (k : Key). is_before key k ≡ true) cut before) in
    let more : before_cut key (area ∷ areas) ≡ area ∷ before_cut key areas = cond-true (is_before area.0 key) (area ∷ before_cut key areas) (before_cut key areas) earlier in
    record {
      room = ap (λ (l : List Keyed). fits (filled_datagram datagram (filled_with_areas filled l)) (key, bits)) more ∙ rest.room;
      place =
          found-after_it (has_key key) (placed_at front area) (packed (front_with (placed_at front area)) areas)
          (ap (λ (k : Key). same_key k key) (place-key (fits front area) front area) ∙ test)
          ∙ ap (λ (f : Front). find (has_key key) (packed f areas)) goes
          ∙ rest.place
          ∙ ap (λ (l : List Keyed). Some (placed_at (filled_datagram datagram (filled_with_areas filled l)) (key, bits))) (sym more);
    }

is_placed-by : (same : Bool) (datagram : ℕ) (filled : Filled) (key first : Key) (bits : ℕ) (area : Keyed) (areas : List Keyed) → same_key area.0 key ≡ same → IsListFrom first (area ∷ areas)
    → width_in (area ∷ areas) key ≡ bits → 0 < bits → is_before key (next_cut (filled_datagram datagram filled) (area ∷ areas)) ≡ true
    → ((so_far : Filled) → width_in areas key ≡ bits → is_before key (next_cut (filled_datagram datagram so_far) areas) ≡ true → IsPlaced datagram so_far key bits areas)
    → IsPlaced datagram filled key bits (area ∷ areas)
is_placed-by true datagram filled key first bits area areas test is width some before later = is_placed-here datagram filled key first bits area areas is test width before
is_placed-by false datagram filled key first bits area areas test is width some before later =
    is_placed-after_it datagram filled key first bits area areas is test width some before later

is_placed : (datagram : ℕ) (filled : Filled) (key first : Key) (bits : ℕ) (list : List Keyed) → IsListFrom first list → width_in list key ≡ bits → 0 < bits
    → is_before key (next_cut (filled_datagram datagram filled) list) ≡ true → IsPlaced datagram filled key bits list
is_placed datagram filled key first bits [] is width some before = absurd (omega arith)
is_placed datagram filled key first bits (area ∷ areas) is width some before =
    is_placed-by (same_key area.0 key) datagram filled key first bits area areas refl is width some before
    (λ so_far width' before'. is_placed datagram so_far key first bits areas (list-tail first area areas is) width' some before')

-- what a datagram carries comes before the next cut

carried-by : (fitting : Bool) (first : Key) (front : Front) (area : Keyed) (areas : List Keyed) → IsListFrom first (area ∷ areas)
    → ((f : Front) → All (λ placed. is_before placed.key (next_cut f areas) ≡ true) (places_in_span f areas))
    → All (λ placed. is_before placed.key (if fitting then next_cut (front_with (place fitting front area)) areas else area.0) ≡ true)
    (if fitting then place fitting front area ∷ places_in_span (front_with (place fitting front area)) areas else [])
carried-by true first front area areas is rest =
    let next = front_with (place true front area) in
    let cut = next_cut next areas in
    let before : is_before area.0 cut ≡ true =
    cut-all (λ key. is_before area.0 key ≡ true) next areas (list-after_it first area areas is) (All-head (λ a. is_before a.0 END ≡ true) area areas is.below) in
    All-cons (λ placed. is_before placed.key cut ≡ true) (place true front area) (places_in_span next areas) before (rest next)
carried-by false first front area areas is rest = All-nil (λ placed. is_before placed.key area.0 ≡ true)

carried-before : (first : Key) (front : Front) (list : List Keyed) → IsListFrom first list → All (λ placed. is_before placed.key (next_cut front list) ≡ true) (places_in_span front list)
carried-before first front [] is = All-nil (λ placed. is_before placed.key END ≡ true)
carried-before first front (area ∷ areas) is =
    carried-by (fits front area) first front area areas is (λ f. carried-before first f areas (list-tail first area areas is))

-- so an area isn't found in a span that ends at its key or before it

unlike : (other bound key : Key) → is_before other bound ≡ true → is_within bound key ≡ true → same_key other key ≡ false
unlike other bound key before low = grind arith

cut-at : (at : ℕ) (list : List Keyed) → IsTaskList list → at + 1 < length (boundaries list)
    → next_cut (blank_datagram at) (areas_from (boundary (boundaries list) at) list) ≡ boundary (boundaries list) (suc at)
cut-at at list is within =
    let from = boundary (boundaries list) at in
    cut-number at 0 0 Out (areas_from from list) ∙ sym (boundary-cut from list is) ∙ sym (next-at at list is within)

boundary-low : (at : ℕ) (list : List Keyed) → IsTaskList list → at + 1 < length (boundaries list)
    → is_within (boundary (boundaries list) at) (boundary (boundaries list) (suc at)) ≡ true
boundary-low at list is within =
    let from = boundary (boundaries list) at in
    let left = areas_from from list in
    subst (λ (key : Key). is_within from key ≡ true) (cut-at at list is within)
    (cut-all (λ key. is_within from key ≡ true) (blank_datagram at) left (areas-from from list is).from (within-from_before from END (before-end at list is within)))

skips-span : (at : ℕ) (list : List Keyed) (key : Key) → IsTaskList list → at + 1 < length (boundaries list) → is_within (boundary (boundaries list) (suc at)) key ≡ true
    → find (has_key key) (places_from at (boundaries list) list) ≡ find (has_key key) (places_from (suc at) (boundaries list) list)
skips-span at list key is within low =
    let keys = boundaries list in
    let from = boundary keys at in
    let left = areas_from from list in
    let more : at + 1 ≡ suc at = omega arith in
    ap (find (has_key key)) (span-places at list is within)
    ∙ found-later (has_key key) (span_places at from list) (places_from (at + 1) keys list)
    (All-weaker (λ placed. is_before placed.key (next_cut (blank_datagram at) left) ≡ true) (λ placed. has_key key placed ≡ false)
    (λ placed before. unlike placed.key (boundary keys (suc at)) key (subst (λ (k : Key). is_before placed.key k ≡ true) (cut-at at list is within) before) low)
    (places_in_span (blank_datagram at) left) (carried-before from (blank_datagram at) left (areas-from from list is)))
    ∙ ap (λ (n : ℕ). find (has_key key) (places_from n keys list)) more

pub skips-spans : (at : ℕ) (list : List Keyed) (key : Key) → IsTaskList list → at + 1 < length (boundaries list) → is_within (boundary (boundaries list) at) key ≡ true
    → find (has_key key) (places_from 0 (boundaries list) list) ≡ find (has_key key) (places_from at (boundaries list) list)
skips-spans zero list key is within low = refl
skips-spans (suc at) list key is within low =
    let keys = boundaries list in
    let inside : at + 1 < length keys = omega arith in
    skips-spans at list key is inside (within-trans (boundary keys at) (boundary keys (suc at)) key (boundary-low at list is inside) low)
    ∙ skips-span at list key is inside low

-- by its number and its first key
found-in : (at : ℕ) (list : List Keyed) (key : Key) (bits : ℕ) → IsTaskList list → at + 1 < length (boundaries list) → is_within (boundary (boundaries list) at) key ≡ true
    → is_before key (boundary (boundaries list) (suc at)) ≡ true → width_in list key ≡ bits → 0 < bits
    → IsPlacedAt (filled_datagram at (filled_with_areas unfilled (areas_between (boundary (boundaries list) at) key list))) (key, bits) (place_of key list)
found-in at list key bits is within low high width some =
    let keys = boundaries list in
    let from = boundary keys at in
    let left = areas_from from list in
    let own = is_placed at unfilled key from bits left (areas-from from list is) (width-from from list key low ∙ width) some
    (subst (λ (k : Key). is_before key k ≡ true) (sym (cut-at at list is within)) high) in
    record {
      room = own.room;
      place = ap (find (has_key key)) (sym (spans-begin keys list is refl)) ∙ skips-spans at list key is within low ∙ own.place;
    }

-- by a key where a datagram begins, among those where they do

ends-after_it : (starts : List Key) (at : ℕ) (key : Key) → at < length starts → is_before key END ≡ true
    → (at + 1 < length starts → is_before key (slice_index_or starts (at + 1) END) ≡ true) → is_before key (boundary (starts ++ END ∷ []) (suc at)) ≡ true
ends-after_it [] at key h end next = absurd (omega arith)
ends-after_it (first ∷ []) zero key h end next = end
ends-after_it (first ∷ []) (suc at) key h end next = absurd (omega arith)
ends-after_it (first ∷ (second ∷ rest)) zero key h end next = grind arith
ends-after_it (first ∷ (second ∷ rest)) (suc at) key h end next =
    let more : suc at + 1 ≡ suc (at + 1) = omega arith in
    ends-after_it (second ∷ rest) at key (omega arith) end
    (λ within. subst (λ (n : ℕ). is_before key (slice_index_or (first ∷ (second ∷ rest)) n END) ≡ true) more (next (omega arith)))

pub found-at : (tree : Tree) (starts : List Key) (at : ℕ) (from key other : Key) (bits : ℕ) (filled : Filled) → HoldsTaskList tree → starts ++ END ∷ [] ≡ boundaries tree.list
    → at < length starts → from ≡ slice_index_or starts at other → is_within (slice_index_or starts at END) key ≡ true
    → (at + 1 < length starts → is_before key (slice_index_or starts (at + 1) END) ≡ true) → width_in tree.list key ≡ bits → 0 < bits
    → filled ≡ filled_with_areas unfilled (areas_between from key tree.list) → IsPlacedAt (filled_datagram at filled) (key, bits) (place_of key tree.list)
found-at tree starts at from key other bits filled holds all within first low next width some is =
    let list = tree.list in
    let many = length-end starts in
    let same : length (starts ++ END ∷ []) ≡ length (boundaries list) = ap length all in
    let inside : at + 1 < length (boundaries list) = omega arith in
    let here : from ≡ boundary (boundaries list) at = first ∙ boundary-front starts (END ∷ []) at other within ∙ ap (λ (keys : List Key). boundary keys at) all in
    let there : slice_index_or starts at END ≡ boundary (boundaries list) at = boundary-front starts (END ∷ []) at END within ∙ ap (λ (keys : List Key). boundary keys at) all in
    let wide : 0 < width_in list key = subst (λ (n : ℕ). 0 < n) (sym width) some in
    let end = width-holds (λ k. is_before k END ≡ true) key list holds.list.between.below wide in
    let own = found-in at list key bits holds.list inside (subst (λ (k : Key). is_within k key ≡ true) there low)
    (subst (λ (keys : List Key). is_before key (boundary keys (suc at)) ≡ true) all (ends-after_it starts at key within end next)) width some in
    let filling : filled ≡ filled_with_areas unfilled (areas_between (boundary (boundaries list) at) key list) = is ∙ ap (λ (k : Key). filled_with_areas unfilled (areas_between k key list)) here in
    subst (λ (f : Filled). IsPlacedAt (filled_datagram at f) (key, bits) (place_of key list)) (sym filling) own

-- what leaves room for an area is no fuller than the longest datagram

pub room-low : (front : Front) (area : Keyed) → fits front area ≡ true → front.bit ≤ MOST_AREA_BITS
room-low front area room = grind arith
