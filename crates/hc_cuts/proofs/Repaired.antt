-- A boundary that a repair keeps or searches: in both cases it is packing's next one, and the count is the definition's.
use Rattle.std.specs.Prelude.{Contains, Option, Some, None, drop, not, slice_index_or}
use Rattle.std.specs.List.{list_any}
use Rattle.std.proofs.Common.{◌≡◌, ℕ, suc, Bool, true, false, List, [], ◌∷◌, ◌++◌, refl, sym, ap, subst, ◌∙◌, arith, if◌then◌else◌}
use Rattle.std.proofs.lemmas.Bool.{and_from, and_left, and_parts, and_right, or_parts}
use Rattle.std.proofs.lemmas.List.{append_cancel_right}
use Rattle.hc_records.specs.declared.keys.Key.{Key}
use Rattle.hc_records.specs.declared.keys.TheConstants.Key.{START, END}
use Rattle.hc_records.specs.Keys.{is_within, same_key}
use Rattle.hc_records.specs.TaskList.{Keyed}
use Rattle.hc_records.specs.Packing.{empty_front}
use Rattle.hc_records.specs.Boundaries.{Interval, boundaries, later_keys, meets_hull, spans}
use Rattle.hc_records.specs.SpanLaws.{IsTaskList, areas_from}
use Rattle.hc_records.proofs.lemmas.KeyOrder.{within-trans}
use Rattle.hc_records.proofs.lemmas.SettledSpans.{agree-sym, width-from}
use Rattle.hc_records.proofs.lemmas.SpanCuts.{areas-from, span-alone}
use Rattle.hc_records.proofs.lemmas.Spans.{Agree, same-cut}
use Rattle.hc_bitsum.specs.Tree.{CanBegin}
use Rattle.hc_cuts.specs.declared.hulls.Hulls.{Hulls}
use Rattle.hc_cuts.specs.Repair.{DifferInside, following, meets_either}
use Rattle.hc_cuts.specs.Spans.{is_settled_by}
use Rattle.hc_cuts.specs.Starts.{next_boundary}
use Rattle.hc_cuts.proofs.Searched.{boundary-cut}

-- a key of a span that meets no hull lies in none

clear-by : (test : Bool) (hull span : Interval) (key : Key) → meets_hull (Some hull) (key, key) ≡ test → meets_hull (Some hull) span ≡ false
    → is_within span.0 key ≡ true → is_within key span.1 ≡ true → test ≡ false
clear-by false hull span key is clear low high = refl
clear-by true hull span key is clear low high = grind (arith, and_parts, and_from, within-trans)

clear-key : (hull : Option Interval) (span : Interval) (key : Key) → meets_hull hull span ≡ false → is_within span.0 key ≡ true → is_within key span.1 ≡ true
    → meets_hull hull (key, key) ≡ false
clear-key None span key clear low high = refl
clear-key (Some hull) span key clear low high = clear-by (meets_hull (Some hull) (key, key)) hull span key refl clear low high

-- so both lists give each of its keys the same width
clear-agree : (hulls : Hulls) (old new : List Keyed) (span : Interval) → DifferInside hulls old new → meets_either hulls span ≡ false → Agree span.0 span.1 old new
clear-agree hulls old new span inside clear = grind (arith, or_parts, clear-key)

-- up to a next boundary within which lists agree, both have it
same-next : (xs ys : List Keyed) (from next : Key) → IsTaskList xs → IsTaskList ys → next ≡ next_boundary from xs → Agree from next xs ys → next ≡ next_boundary from ys
same-next xs ys from next is is' searched agree =
    let agree' : Agree from next (areas_from from xs) (areas_from from ys) =
    record { at = λ key low high. width-from from xs key low ∙ agree.at key low high ∙ sym (width-from from ys key low) } in
    let same = same-cut from next empty_front (areas_from from xs) (areas_from from ys) (areas-from from xs is) (areas-from from ys is') (sym (searched ∙ boundary-cut from xs is)) agree' in
    sym same.0 ∙ sym (boundary-cut from ys is')

-- what follows a key among the boundaries

found-by : (here : Bool) (key : Key) (keys : List Key) (from next : Key) → same_key from key ≡ here
    → (if here then Some (slice_index_or keys 0 END) else following from keys) ≡ Some next
    → (following from keys ≡ Some next → Contains (spans (keys ++ END ∷ [])) (from, next))
    → Contains (spans ((key ∷ keys) ++ END ∷ [])) (from, next)
found-by true key [] from next same is rest = grind arith
found-by true key (other ∷ keys) from next same is rest = grind arith
found-by false key [] from next same is rest = cc
found-by false key (other ∷ keys) from next same is rest = let (k, within, found) = rest is in (suc k, omega arith, found)

found-span : (from next : Key) (keys : List Key) → following from keys ≡ Some next → Contains (spans (keys ++ END ∷ [])) (from, next)
found-span from next [] is = cc
found-span from next (key ∷ keys) is = found-by (same_key from key) key keys from next refl is (λ rest. found-span from next keys rest)

-- a boundary of the old list is one that something follows

among-by : (here : Bool) (from key : Key) (keys : List Key) (next : Key) → same_key from key ≡ here
    → (if here then Some (slice_index_or keys 0 END) else following from keys) ≡ Some next
    → (following from keys ≡ Some next → list_any (same_key from) (keys ++ END ∷ []) ≡ true) → list_any (same_key from) (key ∷ (keys ++ END ∷ [])) ≡ true
among-by here from key keys next same is rest = grind arith

among : (from next : Key) (keys : List Key) → following from keys ≡ Some next → list_any (same_key from) (keys ++ END ∷ []) ≡ true
among from next [] is = cc
among from next (key ∷ keys) is = among-by (same_key from key) from key keys next refl is (λ rest. among from next keys rest)

apart-by : (here : Bool) (from key : Key) (keys : List Key) → same_key from key ≡ here
    → (if here then Some (slice_index_or keys 0 END) else following from keys) ≡ None
    → (following from keys ≡ None → list_any (same_key from) (keys ++ END ∷ []) ≡ false) → list_any (same_key from) (key ∷ (keys ++ END ∷ [])) ≡ false
apart-by here from key keys same is rest = grind arith

apart : (from : Key) (keys : List Key) → same_key from END ≡ false → following from keys ≡ None → list_any (same_key from) (keys ++ END ∷ []) ≡ false
apart from [] other is = rw other refl
apart from (key ∷ keys) other is = apart-by (same_key from key) from key keys refl is (λ rest. apart from keys other rest)

-- no search begins at END

pub begins-apart : (slaves : ℕ) (from : Key) → CanBegin slaves from → same_key from END ≡ false
begins-apart slaves from h2 = grind arith

-- the old next boundary is kept where the old span meets no hull

old-next : (before : List Keyed) (from next : Key) → IsTaskList before → following from (START ∷ later_keys before) ≡ Some next → next ≡ next_boundary from before
old-next before from next is found =
    let contains = found-span from next (START ∷ later_keys before) found in
    (span-alone before (from, next) is contains).next ∙ sym (boundary-cut from before is)

pub unchanged-next : (hulls : Hulls) (before list : List Keyed) (old : List Key) (from next : Key) → IsTaskList before → IsTaskList list → DifferInside hulls before list
    → old ≡ START ∷ later_keys before → following from old ≡ Some next → meets_either hulls (from, next) ≡ false → next ≡ next_boundary from list
unchanged-next hulls before list old from next is is' inside are found clear =
    let follows = subst (λ (keys : List Key). following from keys ≡ Some next) are found in
    same-next before list from next is is' (old-next before from next is follows) (clear-agree hulls before list (from, next) inside clear)

-- whether a span is settled by the old boundaries
abbrev pub settles : Hulls → List Key → Interval → Bool
settles hulls old span = is_settled_by (drop 1 old) hulls.outputs hulls.inputs span

pub unchanged-settled : (hulls : Hulls) (before : List Keyed) (old : List Key) (from next : Key) → old ≡ START ∷ later_keys before → following from old ≡ Some next
    → meets_either hulls (from, next) ≡ false → settles hulls old (from, next) ≡ true
unchanged-settled hulls before old from next are found clear = grind (arith, and_from, among)

-- a searched span isn't settled: its key was no boundary, or the old span from there meets a hull

pub new-unsettled : (hulls : Hulls) (before : List Keyed) (old : List Key) (from next : Key) → old ≡ START ∷ later_keys before → same_key from END ≡ false
    → following from old ≡ None → settles hulls old (from, next) ≡ false
new-unsettled hulls before old from next are other none = grind (arith, and_left, apart)

met-by : (test : Bool) (hulls : Hulls) (before list : List Keyed) (from next old_next : Key) → meets_either hulls (from, next) ≡ test
    → IsTaskList before → IsTaskList list → DifferInside hulls before list → next ≡ next_boundary from list → old_next ≡ next_boundary from before
    → meets_either hulls (from, old_next) ≡ true → test ≡ true
met-by true hulls before list from next old_next is task task' inside searched old_searched met = refl
met-by false hulls before list from next old_next is task task' inside searched old_searched met =
    let agree = agree-sym from next before list (clear-agree hulls before list (from, next) inside is) in
    let same : next ≡ next_boundary from before = same-next list before from next task' task searched agree in
    let key : old_next ≡ next = old_searched ∙ sym same in
    sym is ∙ sym (ap (λ (k : Key). meets_either hulls (from, k)) key) ∙ met

pub met-unsettled : (hulls : Hulls) (before list : List Keyed) (old : List Key) (from next old_next : Key) → IsTaskList before → IsTaskList list
    → DifferInside hulls before list → old ≡ START ∷ later_keys before → following from old ≡ Some old_next → meets_either hulls (from, old_next) ≡ true
    → next ≡ next_boundary from list → settles hulls old (from, next) ≡ false
met-unsettled hulls before list old from next old_next is is' inside are found met searched =
    let follows = subst (λ (keys : List Key). following from keys ≡ Some old_next) are found in
    let meeting = met-by (meets_either hulls (from, next)) hulls before list from next old_next refl is is' inside searched (old-next before from old_next is follows) met in
    and_right (list_any (same_key from) (START ∷ (drop 1 old ++ END ∷ []))) (not (meets_either hulls (from, next))) (ap not meeting)

-- boundaries without END
pub firsts : (before : List Keyed) (starts : List Key) → starts ++ END ∷ [] ≡ boundaries before → starts ≡ START ∷ later_keys before
firsts before starts all = append_cancel_right starts (START ∷ later_keys before) (END ∷ []) all
