-- If a key is touched, a span of the new list is not settled.
use Rattle.std.proofs.Common.{◌≡◌, ◌<◌, ◌≤◌, Bool, true, false, List, [], ◌∷◌, ◌++◌, Option, Some, None, length, refl, sym, ap, subst, arith, if◌then◌else◌}
use Rattle.std.specs.Prelude.{All, filter, fold, map, not, ◌||◌}
use Rattle.std.specs.List.{list_any, zip}
use Rattle.std.proofs.lemmas.Bool.{and_from, and_right, or_left, or_right}
use Rattle.std.proofs.lemmas.List.Elements.{All-head, All-append, All-filter, All-map}
use Rattle.hc_records.specs.declared.records.Dir.{Dir}
use Rattle.hc_records.specs.declared.records.Dir.TheVariants.{Out, In}
use Rattle.hc_records.specs.declared.keys.Key.{Key}
use Rattle.hc_records.specs.declared.keys.TheConstants.Key.{START, END}
use Rattle.hc_records.specs.Keys.{same_dir, same_key, is_before, is_within}
use Rattle.hc_records.specs.TaskList.{Keyed}
use Rattle.hc_records.specs.Boundaries.{Interval, later_keys, boundaries, is_touched, touched, widened, hull, meets_hull, is_settled, unsettled_spans}
use Rattle.hc_records.specs.Laws.{LiesBetween}
use Rattle.hc_records.proofs.lemmas.KeyOrder.{same_dir-refl, within-trans, within-total, within-from_before, within-refl}

-- a key lies in an interval
pub record IsIn (key : Key) (interval : Interval) : Type 0 where
  pub from : is_within interval.0 key ≡ true
  pub to : is_within key interval.1 ≡ true

abbrev pub IsInHull : Key → Option Interval → Type 0
IsInHull key None = ⊥
IsInHull key (Some interval) = IsIn key interval

-- the lesser and the greater of two keys
lesser-within : (before : Bool) (more low key : Key) → is_before more low ≡ before → is_within low key ≡ true → is_within (if before then more else low) key ≡ true
lesser-within true more low key test within = within-trans more low key (within-from_before more low test) within
lesser-within false more low key test within = within

greater-within : (before : Bool) (more high key : Key) → is_before high more ≡ before → is_within key high ≡ true → is_within key (if before then more else high) ≡ true
greater-within true more high key test within = within-trans key high more within (within-from_before high more test)
greater-within false more high key test within = within

-- a widened hull holds what it held
widened-stays : (key more : Key) (hull : Option Interval) → IsInHull key hull → IsInHull key (widened hull more)
widened-stays key more None in_hull = absurd in_hull
widened-stays key more (Some interval) in_hull = record {
  from = lesser-within (is_before more interval.0) more interval.0 key refl in_hull.from;
  to = greater-within (is_before interval.1 more) more interval.1 key refl in_hull.to;
}

pub fold-stays : (key : Key) (hull : Option Interval) (keys : List Key) → IsInHull key hull → IsInHull key (fold widened hull keys)
fold-stays key hull [] in_hull = in_hull
fold-stays key hull (more ∷ keys) in_hull = fold-stays key (widened hull more) keys (widened-stays key more hull in_hull)

-- the hull of a key's direction holds the first touched key
first-in-hull : (key : Key) (keys : List Key) → IsInHull key (hull key.dir (key ∷ keys))
first-in-hull key keys =
    let alike = same_dir-refl key.dir in
    rw alike (fold-stays key (Some (key, key)) (filter (λ other. same_dir other.dir key.dir) keys) (record { from = within-refl key; to = within-refl key }))

-- a span that holds a key of a hull meets it
pub span-meets : (key : Key) (hull : Option Interval) (span : Interval) → IsInHull key hull → IsIn key span → meets_hull hull span ≡ true
span-meets key None span in_hull in_span = absurd in_hull
span-meets key (Some interval) span in_hull in_span =
    and_from (is_within interval.0 span.1) (is_within span.0 interval.1) (within-trans interval.0 key span.1 in_hull.from in_span.to) (within-trans span.0 key interval.1 in_span.from in_hull.to)

pub meets-either : (dir : Dir) (keys : List Key) (span : Interval) → meets_hull (hull dir keys) span ≡ true → (meets_hull (hull Out keys) span || meets_hull (hull In keys) span) ≡ true
meets-either Out keys span meeting = or_left (meets_hull (hull Out keys) span) (meets_hull (hull In keys) span) meeting
meets-either In keys span meeting = or_right (meets_hull (hull Out keys) span) (meets_hull (hull In keys) span) meeting

-- so it isn't settled
unsettled : (old new : List Keyed) (key : Key) (keys : List Key) (span : Interval) → touched old new ≡ key ∷ keys → IsIn key span → is_settled old new span ≡ false
unsettled old new key keys span are in_span =
    let here : meets_hull (hull key.dir (touched old new)) span ≡ true =
    span-meets key (hull key.dir (touched old new)) span (subst (λ all. IsInHull key (hull key.dir all)) (sym are) (first-in-hull key keys)) in_span in
    let either = meets-either key.dir (touched old new) span here in
    and_right (list_any (same_key span.0) (boundaries old)) (not (meets_hull (hull Out (touched old new)) span || meets_hull (hull In (touched old new)) span)) (ap not either)

-- the spans that begin at a key and at later ones, up to END
abbrev pub spans_from : Key → List Key → List Interval
spans_from from later = zip (from ∷ (later ++ END ∷ [])) (later ++ END ∷ [])

one-passes : (test : Interval → Bool) (span : Interval) (rest : List Interval) → test span ≡ true → 1 ≤ length (filter test (span ∷ rest))
one-passes test span rest passes = rw passes (omega arith)

more-pass : (passes : Bool) (test : Interval → Bool) (span : Interval) (rest : List Interval) → test span ≡ passes → 1 ≤ length (filter test rest) → 1 ≤ length (filter test (span ∷ rest))
more-pass true test span rest is some = one-passes test span rest is
more-pass false test span rest is some = rw is some

-- a key up to the next boundary lies in this span, and another in a later one
walk-step : (within : Bool) (test : Interval → Bool) (key from next : Key) (rest : List Interval) → is_within key next ≡ within → is_within from key ≡ true →
    ((span : Interval) → IsIn key span → test span ≡ true) → (is_within next key ≡ true → 1 ≤ length (filter test rest)) → 1 ≤ length (filter test ((from, next) ∷ rest))
walk-step true test key from next rest is low passes later = one-passes test (from, next) rest (passes (from, next) (record { from = low; to = is }))
walk-step false test key from next rest is low passes later = more-pass (test (from, next)) test (from, next) rest refl (later (within-total key next is))

walk : (test : Interval → Bool) (key from : Key) (later : List Key) → is_within from key ≡ true → is_within key END ≡ true → ((span : Interval) → IsIn key span → test span ≡ true) →
    1 ≤ length (filter test (spans_from from later))
walk test key from [] low high passes = one-passes test (from, END) [] (passes (from, END) (record { from = low; to = high }))
walk test key from (next ∷ later) low high passes =
    walk-step (is_within key next) test key from next (spans_from next later) refl low passes (λ after_it. walk test key next later after_it high passes)

-- a touched key lies between START and END
record IsKeyBetween (key : Key) : Type 0 where
  pub above : is_before START key ≡ true
  pub below : is_before key END ≡ true

keys-between : (list : List Keyed) → LiesBetween list → All (λ area. IsKeyBetween area.0) list
keys-between list between k d within = record { above = between.above k d within; below = between.below k d within }

touched-between : (old new : List Keyed) → LiesBetween old → LiesBetween new → All IsKeyBetween (touched old new)
touched-between old new first second =
    All-filter (is_touched old new) IsKeyBetween (map (λ area. area.0) (old ++ new))
    (All-map IsKeyBetween (λ (area : Keyed). area.0) (old ++ new) (All-append (λ area. IsKeyBetween area.0) old new (keys-between old first) (keys-between new second)))

unsettled-some : (old new : List Keyed) (keys : List Key) → touched old new ≡ keys → All IsKeyBetween keys → 0 < length keys → 1 ≤ unsettled_spans old new
unsettled-some old new [] are between some = absurd (omega arith)
unsettled-some old new (key ∷ keys) are between some =
    let here = All-head IsKeyBetween key keys between in
    walk (λ span. not (is_settled old new span)) key START (later_keys new) (within-from_before START key here.above) (within-from_before key END here.below)
    (λ span in_span. ap not (unsettled old new key keys span are in_span))

pub touched-unsettled : (old new : List Keyed) → LiesBetween old → LiesBetween new → 0 < length (touched old new) → 1 ≤ unsettled_spans old new
touched-unsettled old new first second some = unsettled-some old new (touched old new) refl (touched-between old new first second) some
