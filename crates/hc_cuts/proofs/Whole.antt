-- The places of a task's list are its spans', one after another.
use Rattle.std.specs.Prelude.{All, Contains, Some, slice_get, slice_index_or}
use Rattle.std.proofs.Common.{◌≡◌, ℕ, zero, suc, ◌+◌, ◌<◌, ◌≤◌, inl, inr, Bool, true, false, List, [], ◌∷◌, ◌++◌, length, refl, sym, ap, subst, ◌∙◌, arith, if◌then◌else◌, length-append}
use Rattle.std.proofs.lemmas.Bool.{cond-false}
use Rattle.std.proofs.lemmas.List.Elements.{All-head}
use Rattle.hc_records.specs.declared.limits.TheConstants.{MOST_AREA_BITS}
use Rattle.hc_records.specs.declared.records.Dir.TheVariants.{Out}
use Rattle.hc_records.specs.declared.keys.Key.{Key}
use Rattle.hc_records.specs.declared.keys.TheConstants.Key.{START, END}
use Rattle.hc_records.specs.Keys.{is_before, is_within}
use Rattle.hc_records.specs.TaskList.{Keyed}
use Rattle.hc_records.specs.Packing.{Front, Placed, empty_front, beginning, fits, front_with, packed}
use Rattle.hc_records.specs.Boundaries.{boundaries, later_keys, spans}
use Rattle.hc_records.specs.Image.{inside}
use Rattle.hc_records.specs.Laws.{IsPackable}
use Rattle.hc_records.specs.SpanLaws.{IsTaskList, areas_from, places_in_span, next_cut}
use Rattle.hc_records.proofs.lemmas.KeyOrder.{before-apart, before-other, other-sym, within-from_before}
use Rattle.hc_records.proofs.lemmas.Packed.{place}
use Rattle.hc_records.proofs.lemmas.SpanCuts.{areas-from, span-alone, span-begins, all-from}
use Rattle.hc_records.proofs.lemmas.Spans.{IsListFrom, cut-all, list-after_it, list-tail}
use Rattle.hc_bitsum.specs.Tree.{CanBegin, HoldsTaskList, Tree}
use Rattle.hc_cuts.specs.Starts.{TaskCuts, next_boundary}
use Rattle.hc_cuts.specs.Walk.{blank_datagram, span_places}
use Rattle.hc_cuts.proofs.Chain.{areas-twice, count-keys, goes-place}
use Rattle.hc_cuts.proofs.Searched.{boundary-cut}
use Rattle.hc_cuts.proofs.Walked.{append-none, cut-number, none-from_end, own-areas}
use Rattle.hc_cuts.proofs.lemmas.Datagrams.{at-contained, inside-none}

-- the boundary with a number, END after the last one
abbrev pub boundary : List Key → ℕ → Key
boundary keys at = slice_index_or keys at END

span-numbered : (at : ℕ) (keys : List Key) → at + 1 < length keys → slice_get (spans keys) at ≡ Some (boundary keys at, boundary keys (suc at))
span-numbered at [] h = absurd (omega arith)
span-numbered at (key ∷ []) h = absurd (omega arith)
span-numbered zero (key ∷ (next ∷ keys)) h = refl
span-numbered (suc at) (key ∷ (next ∷ keys)) h = span-numbered at (next ∷ keys) (omega arith)

span-at : (at : ℕ) (keys : List Key) → at + 1 < length keys → Contains (spans keys) (boundary keys at, boundary keys (suc at))
span-at at keys h = at-contained (spans keys) at (boundary keys at, boundary keys (suc at)) (span-numbered at keys h)

-- from each boundary, the next one is the one after it
pub next-at : (at : ℕ) (list : List Keyed) → IsTaskList list → at + 1 < length (boundaries list)
    → boundary (boundaries list) (suc at) ≡ next_boundary (boundary (boundaries list) at) list
next-at at list is within =
    (span-alone list (boundary (boundaries list) at, boundary (boundaries list) (suc at)) is (span-at at (boundaries list) within)).next
    ∙ sym (boundary-cut (boundary (boundaries list) at) list is)

pub before-end : (at : ℕ) (list : List Keyed) → IsTaskList list → at + 1 < length (boundaries list) → is_before (boundary (boundaries list) at) END ≡ true
before-end at list is within = span-begins list (boundary (boundaries list) at, boundary (boundaries list) (suc at)) is (span-at at (boundaries list) within)

-- a span begins at the front, or at a key that has a place
begins-at : (at : ℕ) (tree : Tree) → HoldsTaskList tree → at + 1 < length (boundaries tree.list) → CanBegin tree.slaves (boundary (boundaries tree.list) at)
begins-at zero tree holds within = inl refl
begins-at (suc at) tree holds within =
    let keys = boundaries tree.list in
    let other = other-sym END (boundary keys (suc at)) (before-other (boundary keys (suc at)) END (before-end (suc at) tree.list holds.list within)) in
    inr (goes-place tree (boundary keys at) (boundary keys (suc at)) holds (next-at at tree.list holds.list (omega arith)) other)

-- packing goes on in a blank datagram where an area doesn't fit

blank-beginning : (datagram : ℕ) (area : Keyed) → beginning (blank_datagram datagram) area ≡ 0
blank-beginning datagram area = grind arith

blank-fits : (datagram : ℕ) (area : Keyed) → area.1 ≤ MOST_AREA_BITS → fits (blank_datagram datagram) area ≡ true
blank-fits datagram area narrow = grind arith

in-blank : (fitting : Bool) (front : Front) (area : Keyed) → fitting ≡ true → beginning (blank_datagram (front.datagram + 1)) area ≡ 0
    → place false front area ≡ place fitting (blank_datagram (front.datagram + 1)) area
in-blank fitting front area test first = grind arith

goes-by : (fitting : Bool) (first : Key) (front : Front) (area : Keyed) (areas : List Keyed) → IsListFrom first (area ∷ areas)
    → ((f : Front) → packed f areas ≡ places_in_span f areas ++ packed (blank_datagram (f.datagram + 1)) (areas_from (next_cut f areas) areas))
    → place fitting front area ∷ packed (front_with (place fitting front area)) areas
    ≡ (if fitting then place fitting front area ∷ places_in_span (front_with (place fitting front area)) areas else [])
    ++ packed (blank_datagram (front.datagram + 1)) (areas_from (if fitting then next_cut (front_with (place fitting front area)) areas else area.0) (area ∷ areas))
goes-by true first front area areas is rest =
    let next = front_with (place true front area) in
    let cut = next_cut next areas in
    let before : is_before area.0 cut ≡ true =
    cut-all (λ key. is_before area.0 key ≡ true) next areas (list-after_it first area areas is) (All-head (λ a. is_before a.0 END ≡ true) area areas is.below) in
    let skipped : areas_from cut (area ∷ areas) ≡ areas_from cut areas =
    cond-false (is_within cut area.0) (area ∷ areas_from cut areas) (areas_from cut areas) (before-apart area.0 cut before) in
    ap (λ (places : List Placed). place true front area ∷ places)
    (rest next ∙ ap (λ (left : List Keyed). places_in_span next areas ++ packed (blank_datagram (front.datagram + 1)) left) (sym skipped))
goes-by false first front area areas is rest =
    let narrow = (All-head IsPackable area areas is.packable).narrow in
    let blank = blank_datagram (front.datagram + 1) in
    let own = in-blank (fits blank area) front area (blank-fits (front.datagram + 1) area narrow) (blank-beginning (front.datagram + 1) area) in
    ap (λ (placed : Placed). placed ∷ packed (front_with placed) areas) own
    ∙ ap (packed blank) (sym (own-areas first (area ∷ areas) is))

packed-goes_on : (first : Key) (front : Front) (list : List Keyed) → IsListFrom first list
    → packed front list ≡ places_in_span front list ++ packed (blank_datagram (front.datagram + 1)) (areas_from (next_cut front list) list)
packed-goes_on first front [] is = refl
packed-goes_on first front (area ∷ areas) is =
    goes-by (fits front area) first front area areas is (λ f. packed-goes_on first f areas (list-tail first area areas is))

-- the places of the areas from the boundary with a number on
abbrev pub places_from : ℕ → List Key → List Keyed → List Placed
places_from at keys list = packed (blank_datagram at) (areas_from (boundary keys at) list)

-- they are its span's, and those from the next boundary on
pub span-places : (at : ℕ) (list : List Keyed) → IsTaskList list → at + 1 < length (boundaries list)
    → places_from at (boundaries list) list ≡ span_places at (boundary (boundaries list) at) list ++ places_from (at + 1) (boundaries list) list
span-places at list is within =
    let keys = boundaries list in
    let from = boundary keys at in
    let left = areas_from from list in
    let own = areas-from from list is in
    let more : suc at ≡ at + 1 = omega arith in
    let cut : next_cut (blank_datagram at) left ≡ boundary keys (at + 1) =
    cut-number at 0 0 Out left ∙ sym (boundary-cut from list is) ∙ sym (next-at at list is within) ∙ ap (boundary keys) more in
    let low : is_within from (boundary keys (at + 1)) ≡ true =
    subst (λ (key : Key). is_within from key ≡ true) cut
    (cut-all (λ key. is_within from key ≡ true) (blank_datagram at) left own.from (within-from_before from END (before-end at list is within))) in
    packed-goes_on from (blank_datagram at) left own
    ∙ ap (λ (key : Key). places_in_span (blank_datagram at) left ++ packed (blank_datagram (at + 1)) (areas_from key left)) cut
    ∙ ap (λ (areas : List Keyed). places_in_span (blank_datagram at) left ++ packed (blank_datagram (at + 1)) areas) (areas-twice from (boundary keys (at + 1)) list low)

-- a walk over the spans: the places so far, and those that are left

pub spans-begin : (keys : List Key) (list : List Keyed) → IsTaskList list → keys ≡ boundaries list → places_from 0 keys list ≡ packed empty_front list
spans-begin keys list is all = rw all (ap (packed empty_front) (all-from list is))

pub length-end : (starts : List Key) → length (starts ++ END ∷ []) ≡ length starts + 1
length-end starts = length-append starts (END ∷ [])

pub boundary-front : (keys front_with : List Key) (at : ℕ) (other : Key) → at < length keys → slice_index_or keys at other ≡ boundary (keys ++ front_with) at
boundary-front [] front_with at other h = absurd (omega arith)
boundary-front (key ∷ keys) front_with zero other h = refl
boundary-front (key ∷ keys) front_with (suc at) other h = boundary-front keys front_with at other (omega arith)

boundary-last : (starts : List Key) → boundary (starts ++ END ∷ []) (length starts) ≡ END
boundary-last [] = refl
boundary-last (key ∷ keys) = boundary-last keys

-- a start with a number, and the boundary after it
pub record IsSpanAt (tree : Tree) (starts : List Key) (at : ℕ) (from next : Key) : Type 0 where
  pub begins : CanBegin tree.slaves from
  pub ends : next ≡ next_boundary from tree.list
  pub numbered : slice_get (spans (boundaries tree.list)) at ≡ Some (from, next)
  pub rest : places_from at (starts ++ END ∷ []) tree.list ≡ span_places at from tree.list ++ places_from (at + 1) (starts ++ END ∷ []) tree.list

pub is-span_at : (tree : Tree) (starts : List Key) (at : ℕ) (from next other : Key) → HoldsTaskList tree → starts ++ END ∷ [] ≡ boundaries tree.list → at < length starts
    → from ≡ slice_index_or starts at other → next ≡ slice_index_or (starts ++ END ∷ []) (at + 1) END → IsSpanAt tree starts at from next
is-span_at tree starts at from next other holds all within first last =
    let many = length-end starts in
    let same : length (starts ++ END ∷ []) ≡ length (boundaries tree.list) = ap length all in
    let low : at + 1 < length (boundaries tree.list) = omega arith in
    let here : from ≡ boundary (boundaries tree.list) at = first ∙ boundary-front starts (END ∷ []) at other within ∙ ap (λ (keys : List Key). boundary keys at) all in
    let more : at + 1 ≡ suc at = omega arith in
    let there : next ≡ boundary (boundaries tree.list) (suc at) = last ∙ ap (λ (keys : List Key). boundary keys (at + 1)) all ∙ ap (boundary (boundaries tree.list)) more in
    record {
      begins = rw here (begins-at at tree holds low);
      ends = rw (here, there) (next-at at tree.list holds.list low);
      numbered = rw (here, there) (span-numbered at (boundaries tree.list) low);
      rest = rw (here, all) (span-places at tree.list holds.list low);
    }

pub spans-end : (tree : Tree) (starts : List Key) (places : List Placed) (at : ℕ) → HoldsTaskList tree → at ≡ length starts
    → places ++ places_from at (starts ++ END ∷ []) tree.list ≡ packed empty_front tree.list → places ≡ packed empty_front tree.list
spans-end tree starts places at holds last whole =
    grind (arith, boundary-last, none-from_end, append-none)

-- there is no datagram after those that begin at a boundary
pub after_it-starts : (list : List Keyed) (starts : List Key) (number : ℕ) → All IsPackable list → starts ++ END ∷ [] ≡ boundaries list → length starts ≤ number
    → inside number (packed empty_front list) ≡ []
after_it-starts list starts number packable all front_with =
    let many = length-end starts in
    let same : length (starts ++ END ∷ []) ≡ length (boundaries list) = ap length all in
    let keys = length-end (START ∷ later_keys list) in
    let count = count-keys list packable in
    inside-none number (packed empty_front list) (omega arith)

-- the boundaries, as the caller has them and as they are kept
pub own-boundaries : (unchanged own : TaskCuts) (starts : List Key) → own ≡ unchanged → starts ≡ own.starts → unchanged.starts ++ END ∷ [] ≡ boundaries unchanged.tree.list
    → starts ++ END ∷ [] ≡ boundaries own.tree.list
own-boundaries unchanged own starts same are all =
    ap (λ (keys : List Key). keys ++ END ∷ []) are ∙ subst (λ (k : TaskCuts). k.starts ++ END ∷ [] ≡ boundaries k.tree.list) (sym same) all
