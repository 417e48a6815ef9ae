-- A settled span carries what it carried before the edit.
use Rattle.std.proofs.Common.{◌≡◌, ◌⊎◌, inl, inr, zero, suc, Bool, true, false, List, [], ◌∷◌, ◌++◌, Option, Some, None, refl, sym, ap, subst, ◌∙◌, arith, if◌then◌else◌}
use Rattle.std.specs.Prelude.{All, Contains, filter, fold, map, not, ◌||◌, ◌==◌}
use Rattle.std.specs.List.{list_any}
use Rattle.std.proofs.lemmas.Bool.{and_parts, eq-eqb, eqb-true, not-true, or_cases}
use Rattle.std.proofs.lemmas.List.Elements.{All-nil, All-cons, All-head, All-tail}
use Rattle.hc_records.specs.declared.records.Dir.{Dir}
use Rattle.hc_records.specs.declared.records.Dir.TheVariants.{Out, In}
use Rattle.hc_records.specs.declared.keys.Key.{Key}
use Rattle.hc_records.specs.declared.keys.TheConstants.Key.{START, END}
use Rattle.hc_records.specs.Keys.{same_dir, same_key, is_before, is_within}
use Rattle.hc_records.specs.TaskList.{Keyed}
use Rattle.hc_records.specs.Packing.{empty_front}
use Rattle.hc_records.specs.Boundaries.{Interval, boundaries, hull, is_settled, is_touched, later_keys, meets_hull, spans, touched, widened, width_in}
use Rattle.hc_records.specs.SpanLaws.{CarriesTheSame, IsTaskList, areas_from, places_in_span, seen_area, span_areas}
use Rattle.hc_records.proofs.lemmas.KeyOrder.{before-other, other-sym, same_dir-refl, same_key-same, within-else, within-refl}
use Rattle.hc_records.proofs.lemmas.Lists.{All-append_left, All-append_right, All-from_filter, All-unmap}
use Rattle.hc_records.proofs.lemmas.SpanCuts.{areas-from, span-alone, span-begins}
use Rattle.hc_records.proofs.lemmas.Spans.{Agree, same-cut, width-here, width-skip}
use Rattle.hc_records.proofs.Touched.{IsIn, IsInHull, fold-stays, meets-either, span-meets, spans_from}

-- a hull holds the keys that it is the hull of

lesser-own : (before : Bool) (key low : Key) → is_before key low ≡ before → is_within (if before then key else low) key ≡ true
lesser-own true key low test = within-refl key
lesser-own false key low test = within-else key low test

greater-own : (before : Bool) (key high : Key) → is_before high key ≡ before → is_within key (if before then key else high) ≡ true
greater-own true key high test = within-refl key
greater-own false key high test = within-else high key test

widened-has : (key : Key) (hull : Option Interval) → IsInHull key (widened hull key)
widened-has key None = record { from = within-refl key; to = within-refl key }
widened-has key (Some interval) = record { from = lesser-own (is_before key interval.0) key interval.0 refl; to = greater-own (is_before interval.1 key) key interval.1 refl }

hull-all : (begun : Option Interval) (keys : List Key) → All (λ key. IsInHull key (fold widened begun keys)) keys
hull-all begun [] = All-nil (λ key. IsInHull key begun)
hull-all begun (key ∷ keys) =
    let next = widened begun key in
    All-cons (λ other. IsInHull other (fold widened next keys)) key keys (fold-stays key next keys (widened-has key begun)) (hull-all next keys)

-- a key of either list, where it is touched, is in the hull of its direction
abbrev IsHeld : List Keyed → List Keyed → Dir → Key → Type 0
IsHeld old new dir key = is_touched old new key ≡ true → same_dir key.dir dir ≡ true → IsInHull key (hull dir (touched old new))

all-held : (old new : List Keyed) (dir : Dir) → All (λ area. IsHeld old new dir area.0) (old ++ new)
all-held old new dir =
    All-unmap (IsHeld old new dir) (λ (area : Keyed). area.0) (old ++ new)
    (All-from_filter (λ key. same_dir key.dir dir ≡ true → IsInHull key (hull dir (touched old new))) (is_touched old new) (map (λ area. area.0) (old ++ new))
    (All-from_filter (λ key. IsInHull key (hull dir (touched old new))) (λ key. same_dir key.dir dir) (touched old new)
    (hull-all None (filter (λ key. same_dir key.dir dir) (touched old new)))))

-- a key has no width, or is a key of the list
width-by : (same : Bool) (P : Key → Type 0) (area : Keyed) (areas : List Keyed) (key : Key) → same_key area.0 key ≡ same → P area.0 → (width_in areas key ≡ 0) ⊎ P key →
    (width_in (area ∷ areas) key ≡ 0) ⊎ P key
width-by true P area areas key test here rest = inr (subst P (same_key-same area.0 key test) here)
width-by false P area areas key test here (inl none) = inl (width-skip area areas key test ∙ none)
width-by false P area areas key test here (inr there) = inr there

width-or : (P : Key → Type 0) (list : List Keyed) (key : Key) → All (λ area. P area.0) list → (width_in list key ≡ 0) ⊎ P key
width-or P [] key all = inl refl
width-or P (area ∷ areas) key all =
    width-by (same_key area.0 key) P area areas key refl (All-head (λ a. P a.0) area areas all) (width-or P areas key (All-tail (λ a. P a.0) area areas all))

held-by : (old new : List Keyed) (key : Key) → (width_in old key ≡ 0) ⊎ IsHeld old new key.dir key → (width_in new key ≡ 0) ⊎ IsHeld old new key.dir key →
    is_touched old new key ≡ true → IsInHull key (hull key.dir (touched old new))
held-by old new key (inr held) second touched = held touched (same_dir-refl key.dir)
held-by old new key (inl none) (inr held) touched = held touched (same_dir-refl key.dir)
held-by old new key (inl none) (inl none') touched =
    let same : (width_in old key == width_in new key) ≡ true = eq-eqb (width_in old key) (width_in new key) (none ∙ sym none') in
    let unchanged : (width_in old key == width_in new key) ≡ false = not-true (width_in old key == width_in new key) touched in
    let never : true ≡ false = sym same ∙ unchanged in
    cc

touched-held : (old new : List Keyed) (key : Key) → is_touched old new key ≡ true → IsInHull key (hull key.dir (touched old new))
touched-held old new key =
    let all = all-held old new key.dir in
    held-by old new key (width-or (IsHeld old new key.dir) old key (All-append_left (λ area. IsHeld old new key.dir area.0) old new all))
    (width-or (IsHeld old new key.dir) new key (All-append_right (λ area. IsHeld old new key.dir area.0) old new all))

-- where a span meets no hull, both lists give each key in it, both ends included, the same width
abbrev pub meets_some : List Keyed → List Keyed → Interval → Bool
meets_some old new span = meets_hull (hull Out (touched old new)) span || meets_hull (hull In (touched old new)) span

agree-by : (same : Bool) (old new : List Keyed) (span : Interval) (key : Key) → (width_in old key == width_in new key) ≡ same → meets_some old new span ≡ false → IsIn key span →
    width_in old key ≡ width_in new key
agree-by true old new span key test clear in_span = eqb-true (width_in old key) (width_in new key) test
agree-by false old new span key test clear in_span =
    let held = touched-held old new key (ap not test) in
    let meeting = meets-either key.dir (touched old new) span (span-meets key (hull key.dir (touched old new)) span held in_span) in
    let never : true ≡ false = sym meeting ∙ clear in
    cc

pub clear-agrees : (old new : List Keyed) (span : Interval) → meets_some old new span ≡ false → Agree span.0 span.1 old new
clear-agrees old new span clear = record {
  at = λ key low high. agree-by (width_in old key == width_in new key) old new span key refl clear (record { from = low; to = high });
}

-- the areas from a key on have the widths of the list
from-by : (unchanged same : Bool) (first : Key) (area : Keyed) (areas : List Keyed) (key : Key) → is_within first area.0 ≡ unchanged → same_key area.0 key ≡ same → is_within first key ≡ true →
    width_in (areas_from first areas) key ≡ width_in areas key → width_in (if unchanged then area ∷ areas_from first areas else areas_from first areas) key ≡ width_in (area ∷ areas) key
from-by true true first area areas key unchanged same low rest = width-here area (areas_from first areas) key same ∙ sym (width-here area areas key same)
from-by true false first area areas key unchanged same low rest = width-skip area (areas_from first areas) key same ∙ rest ∙ sym (width-skip area areas key same)
from-by false true first area areas key unchanged same low rest =
    let is = ap (is_within first) (same_key-same area.0 key same) in
    let never : true ≡ false = sym low ∙ sym is ∙ unchanged in
    cc
from-by false false first area areas key unchanged same low rest = rest ∙ sym (width-skip area areas key same)

pub width-from : (first : Key) (list : List Keyed) (key : Key) → is_within first key ≡ true → width_in (areas_from first list) key ≡ width_in list key
width-from first [] key low = refl
width-from first (area ∷ areas) key low =
    from-by (is_within first area.0) (same_key area.0 key) first area areas key refl refl low (width-from first areas key low)

-- a boundary other than END is START or a later one
boundary-by : (key first : Key) (rest : List Key) (any : Bool) → (any ≡ true → Contains rest key) → (same_key key first ≡ true) ⊎ (any ≡ true) → Contains (first ∷ rest) key
boundary-by key first rest any later (inl same) = (0, omega arith, sym (same_key-same key first same))
boundary-by key first rest any later (inr here) = let found = later here in (suc found.0, let within = found.1 in omega arith, found.2)

never-end : (key : Key) → same_key key END ≡ false → (same_key key END ≡ true) ⊎ (false ≡ true) → Contains [] key
never-end key other (inl same) = let never : true ≡ false = sym same ∙ other in cc
never-end key other (inr never) = cc

boundary-key : (key : Key) (keys : List Key) → same_key key END ≡ false → list_any (same_key key) (keys ++ END ∷ []) ≡ true → Contains keys key
boundary-key key [] other any = never-end key other (or_cases (same_key key END) false any)
boundary-key key (first ∷ rest) other any =
    boundary-by key first rest (list_any (same_key key) (rest ++ END ∷ [])) (boundary-key key rest other)
    (or_cases (same_key key first) (list_any (same_key key) (rest ++ END ∷ [])) any)

-- a span begins at it
shifted : (span first : Interval) (rest : List Interval) → Contains rest span → Contains (first ∷ rest) span
shifted span first rest (k, within, found) = (suc k, omega arith, found)

next-shifted : (from next key : Key) (later : List Key) → (last : Key) × Contains (spans_from next later) (key, last) → (last : Key) × Contains (spans_from from (next ∷ later)) (key, last)
next-shifted from next key later (last, contains) = (last, shifted (key, last) (from, next) (spans_from next later) contains)

next-span : (from : Key) (later : List Key) (key : Key) → Contains (from ∷ later) key → (last : Key) × Contains (spans_from from later) (key, last)
next-span from [] key (zero, within, found) = (END, (0, omega arith, ap (λ (k : Key). (k, END)) found))
next-span from [] key (suc k, within, found) = absurd (omega arith)
next-span from (next ∷ later) key (zero, within, found) = (next, (0, omega arith, ap (λ (k : Key). (k, next)) found))
next-span from (next ∷ later) key (suc k, within, found) = next-shifted from next key later (next-span next later key (k, omega arith, found))

-- a span of one list that begins at a boundary of another, and where both lists give each key the same width, is a span of the other and carries the same
span-unchanged : (list other : List Keyed) (span : Interval) → IsTaskList list → IsTaskList other → Contains (spans (boundaries list)) span → Contains (START ∷ later_keys other) span.0 →
    Agree span.0 span.1 list other → CarriesTheSame other list span
span-unchanged list other span is is' contains begins agree =
    let alone = span-alone list span is contains in
    let next = next-span START (later_keys other) span.0 begins in
    let last = next.0 in
    let alone' = span-alone other (span.0, last) is' next.1 in
    let agree' : Agree span.0 span.1 (areas_from span.0 list) (areas_from span.0 other) =
    record { at = λ key low high. width-from span.0 list key low ∙ agree.at key low high ∙ sym (width-from span.0 other key low) } in
    let same = same-cut span.0 span.1 empty_front (areas_from span.0 list) (areas_from span.0 other) (areas-from span.0 list is) (areas-from span.0 other is') (sym alone.next) agree' in
    let end : last ≡ span.1 = alone'.next ∙ same.0 in
    record {
      was_span = subst (λ (key : Key). Contains (spans (boundaries other)) (span.0, key)) end next.1;
      areas =
          alone.areas
          ∙ ap (map seen_area) (sym same.1)
          ∙ sym (subst (λ (key : Key). span_areas other (span.0, key) ≡ map seen_area (places_in_span empty_front (areas_from span.0 other))) end alone'.areas);
    }

pub agree-sym : (first last : Key) (xs ys : List Keyed) → Agree first last xs ys → Agree first last ys xs
agree-sym first last xs ys agree = record { at = λ key low high. sym (agree.at key low high) }

pub settled-stays : (old new : List Keyed) (span : Interval) → IsTaskList old → IsTaskList new → Contains (spans (boundaries new)) span → is_settled old new span ≡ true → CarriesTheSame old new span
settled-stays old new span is is' contains settled =
    let parts = and_parts (list_any (same_key span.0) (boundaries old)) (not (meets_some old new span)) settled in
    let other = before-other span.0 END (span-begins new span is' contains) in
    span-unchanged new old span is' is contains
    (boundary-key span.0 (START ∷ later_keys old) (other-sym END span.0 other) parts.0)
    (agree-sym span.0 span.1 old new (clear-agrees old new span (not-true (meets_some old new span) parts.1)))
