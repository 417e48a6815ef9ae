-- A datagram is filled up to a key, and from there on to another one.
use Rattle.std.specs.Prelude.{All, slice_index_or}
use Rattle.std.proofs.Common.{◌≡◌, ℕ, ◌+◌, ◌<◌, Bool, true, false, List, [], ◌∷◌, ◌++◌, length, refl, sym, ap, ◌∙◌, arith}
use Rattle.std.proofs.lemmas.Bool.{cond-false, cond-true}
use Rattle.std.proofs.lemmas.List.Elements.{All-cons, All-weaker}
use Rattle.hc_records.specs.declared.keys.Key.{Key}
use Rattle.hc_records.specs.declared.keys.TheConstants.Key.{START, END}
use Rattle.hc_records.specs.Keys.{is_before, is_within}
use Rattle.hc_records.specs.TaskList.{Keyed}
use Rattle.hc_records.specs.Boundaries.{boundaries, later_keys, width_in}
use Rattle.hc_records.specs.SpanLaws.{IsTaskList, areas_from}
use Rattle.hc_records.proofs.lemmas.KeyOrder.{before-apart, before-else, within-apart, within-else, within-from_before, within-refl, within-trans}
use Rattle.hc_records.proofs.lemmas.SpanCuts.{areas-from}
use Rattle.hc_records.proofs.lemmas.Spans.{IsListFrom, filter-stays, list-after_it, list-tail}
use Rattle.hc_bitsum.specs.declared.filled.Filled.{Filled}
use Rattle.hc_bitsum.specs.Filling.{areas_between, filled_with_areas}
use Rattle.hc_bitsum.specs.Tree.{HoldsTaskList, Tree}
use Rattle.hc_bitsum.proofs.lemmas.Fillings.{with_areas-append}
use Rattle.hc_cuts.specs.declared.cursor.Cursor.{Cursor}
use Rattle.hc_cuts.specs.Cursors.{IsCursorOf, unfilled}
use Rattle.hc_cuts.specs.Place.{place_of}
use Rattle.hc_cuts.specs.Walk.{filled_datagram}
use Rattle.hc_cuts.proofs.Chain.{areas-twice}
use Rattle.hc_cuts.proofs.Placed.{IsPlacedAt, found-at, none-before, room-low}
use Rattle.hc_cuts.proofs.Whole.{length-end}
use Rattle.hc_cuts.proofs.Walked.{before_cut}

-- no area lies from a key on and before it

none-by : (low : Bool) (key : Key) (area : Keyed) (areas : List Keyed) → is_within key area.0 ≡ low → areas_between key key areas ≡ []
    → areas_between key key (area ∷ areas) ≡ []
none-by true key area areas low rest =
    ap (before_cut key) (cond-true (is_within key area.0) (area ∷ areas_from key areas) (areas_from key areas) low)
    ∙ cond-false (is_before area.0 key) (area ∷ areas_between key key areas) (areas_between key key areas) (within-apart key area.0 low)
    ∙ rest
none-by false key area areas low rest =
    ap (before_cut key) (cond-false (is_within key area.0) (area ∷ areas_from key areas) (areas_from key areas) low) ∙ rest

none-between : (key : Key) (list : List Keyed) → areas_between key key list ≡ []
none-between key [] = refl
none-between key (area ∷ areas) = none-by (is_within key area.0) key area areas refl (none-between key areas)

-- what is before a key is before each one that isn't before that

before-low : (a b c : Key) → is_before a b ≡ true → is_within b c ≡ true → is_before a c ≡ true
before-low a b c before low = before-else a c (none (is_within c a) refl)
  where
    none : (back : Bool) → is_within c a ≡ back → is_within c a ≡ false
    none true back = let round : is_within b a ≡ true = within-trans b c a low back in let apart = before-apart a b before in cc
    none false back = back

-- the areas before a key are those before a lower one and those between both

splits-by : (before : Bool) (first middle until : Key) (area : Keyed) (areas : List Keyed) → is_before area.0 middle ≡ before → IsListFrom first (area ∷ areas)
    → is_within middle until ≡ true → before_cut until areas ≡ before_cut middle areas ++ areas_between middle until areas
    → before_cut until (area ∷ areas) ≡ before_cut middle (area ∷ areas) ++ areas_between middle until (area ∷ areas)
splits-by true first middle until area areas test is low rest =
    let later : is_before area.0 until ≡ true = before-low area.0 middle until test low in
    cond-true (is_before area.0 until) (area ∷ before_cut until areas) (before_cut until areas) later
    ∙ ap (λ (l : List Keyed). area ∷ l) rest
    ∙ ap (λ (l : List Keyed). l ++ areas_between middle until areas)
    (sym (cond-true (is_before area.0 middle) (area ∷ before_cut middle areas) (before_cut middle areas) test))
    ∙ ap (λ (l : List Keyed). before_cut middle (area ∷ areas) ++ before_cut until l)
    (sym (cond-false (is_within middle area.0) (area ∷ areas_from middle areas) (areas_from middle areas) (before-apart area.0 middle test)))
splits-by false first middle until area areas test is low rest =
    let here : is_within middle area.0 ≡ true = within-else area.0 middle test in
    let all : All (λ a. is_within middle a.0 ≡ true) (area ∷ areas) =
    All-cons (λ a. is_within middle a.0 ≡ true) area areas here
    (All-weaker (λ a. is_before area.0 a.0 ≡ true) (λ a. is_within middle a.0 ≡ true) (λ a later. within-trans middle area.0 a.0 here (within-from_before area.0 a.0 later)) areas
    (list-after_it first area areas is)) in
    ap (before_cut until) (sym (filter-stays (λ a. is_within middle a.0) (area ∷ areas) all))
    ∙ ap (λ (l : List Keyed). l ++ areas_between middle until (area ∷ areas)) (sym (none-before middle (area ∷ areas) all))

splits : (first middle until : Key) (list : List Keyed) → IsListFrom first list → is_within middle until ≡ true
    → before_cut until list ≡ before_cut middle list ++ areas_between middle until list
splits first middle until [] is low = refl
splits first middle until (area ∷ areas) is low =
    splits-by (is_before area.0 middle) first middle until area areas refl is low (splits first middle until areas (list-tail first area areas is) low)

-- stretches of a task's list join

stretches-join : (from middle until : Key) (list : List Keyed) → IsTaskList list → is_within from middle ≡ true → is_within middle until ≡ true
    → areas_between from until list ≡ areas_between from middle list ++ areas_between middle until list
stretches-join from middle until list is low high =
    splits from middle until (areas_from from list) (areas-from from list is) high
    ∙ ap (λ (l : List Keyed). areas_between from middle list ++ before_cut until l) (areas-twice from middle list low)

filling-goes_on : (from middle until : Key) (list : List Keyed) (filled : Filled) → IsTaskList list → is_within from middle ≡ true → is_within middle until ≡ true
    → filled ≡ filled_with_areas unfilled (areas_between from middle list)
    → filled_with_areas filled (areas_between middle until list) ≡ filled_with_areas unfilled (areas_between from until list)
filling-goes_on from middle until list filled is low high so_far =
    ap (λ (f : Filled). filled_with_areas f (areas_between middle until list)) so_far
    ∙ sym (with_areas-append unfilled (areas_between from middle list) (areas_between middle until list))
    ∙ ap (filled_with_areas unfilled) (sym (stretches-join from middle until list is low high))

-- a cursor at the front of a datagram

pub front-is_placed : (starts : List Key) (list : List Keyed) (key : Key) (datagram : ℕ) → datagram < length starts → slice_index_or starts datagram END ≡ key
    → IsCursorOf starts list (record { key = key; datagram = datagram; filled = unfilled })
front-is_placed starts list key datagram within is = record {
  within = within;
  begun = ap (λ (k : Key). is_within k key) is ∙ within-refl key;
  filled =
      ap (filled_with_areas unfilled) (sym (none-between key list)) ∙ ap (λ (k : Key). filled_with_areas unfilled (areas_between k key list)) (sym is);
  low = omega arith;
}

-- the first datagram begins at START

pub first-start : (starts : List Key) (list : List Keyed) → starts ++ END ∷ [] ≡ boundaries list → slice_index_or starts 0 END ≡ START
first-start [] list all = cc
first-start (key ∷ keys) list all = cc

pub some-start : (starts : List Key) (list : List Keyed) → starts ++ END ∷ [] ≡ boundaries list → 0 < length starts
some-start starts list all =
    let many = length-end starts in
    let more = length-end (START ∷ later_keys list) in
    let same : length (starts ++ END ∷ []) ≡ length (boundaries list) = ap length all in
    omega arith

-- from a cursor on, the datagram is filled up to an area that it carries: there the area is, and a cursor there

pub record GoesOn (tree : Tree) (starts : List Key) (datagram : ℕ) (filled : Filled) (key : Key) (bits : ℕ) : Type 0 where
  pub area : IsPlacedAt (filled_datagram datagram filled) (key, bits) (place_of key tree.list)
  pub cursor : IsCursorOf starts tree.list (record { key = key; datagram = datagram; filled = filled })

pub goes-on : (tree : Tree) (starts : List Key) (from : Cursor) (key : Key) (bits : ℕ) (filled : Filled) → HoldsTaskList tree → starts ++ END ∷ [] ≡ boundaries tree.list
    → IsCursorOf starts tree.list from → is_within from.key key ≡ true
    → (from.datagram + 1 < length starts → is_before key (slice_index_or starts (from.datagram + 1) END) ≡ true) → width_in tree.list key ≡ bits → 0 < bits
    → filled ≡ filled_with_areas from.filled (areas_between from.key key tree.list) → GoesOn tree starts from.datagram filled key bits
goes-on tree starts from key bits filled holds all is_placed low next width some is =
    let first = slice_index_or starts from.datagram END in
    let after_it : is_within first key ≡ true = within-trans first from.key key is_placed.begun low in
    let whole : filled ≡ filled_with_areas unfilled (areas_between first key tree.list) =
    is ∙ filling-goes_on first from.key key tree.list from.filled holds.list is_placed.begun low is_placed.filled in
    let area = found-at tree starts from.datagram first key END bits filled holds all is_placed.within refl after_it next width some whole in
    record {
      area = area;
      cursor = record {
        within = is_placed.within;
        begun = after_it;
        filled = whole;
        low = room-low (filled_datagram from.datagram filled) (key, bits) area.room;
      };
    }
