-- A span begins at START or at a cut inside its list, and ends where the areas from there on are cut first.
use Rattle.std.proofs.Common.{◌≡◌, ◌⊎◌, inl, inr, zero, suc, Bool, true, false, List, [], ◌∷◌, ◌++◌, refl, sym, ap, subst, ◌∙◌, arith, if◌then◌else◌}
use Rattle.std.specs.Prelude.{All, Contains, IsTrue, filter, map}
use Rattle.std.proofs.lemmas.Bool.{and_left, cond-false, cond-true}
use Rattle.std.proofs.lemmas.List.Elements.{All-cons, All-filter, All-head, All-weaker, filter-append, filter_passes}
use Rattle.std.proofs.lemmas.List.Kept.{AllPairs-filter}
use Rattle.hc_records.specs.declared.keys.Key.{Key}
use Rattle.hc_records.specs.declared.keys.TheConstants.Key.{START, END}
use Rattle.hc_records.specs.Keys.{is_before, is_within}
use Rattle.hc_records.specs.TaskList.{Keyed}
use Rattle.hc_records.specs.Packing.{Front, Placed, empty_front, fits, placed_at, front_with, packed}
use Rattle.hc_records.specs.Image.{datagram_count}
use Rattle.hc_records.specs.Boundaries.{Interval, begins_later, boundaries, spans}
use Rattle.hc_records.specs.Laws.{IsPackable, cuts_from, front_after, raised}
use Rattle.hc_records.specs.SpanLaws.{IsCutAlone, IsTaskList, areas_from, places_in_span, lies_in, next_cut, seen_area}
use Rattle.hc_records.proofs.lemmas.Cuts.{later_keys-cuts, other-begins}
use Rattle.hc_records.proofs.lemmas.KeyOrder.{before-apart, within-from_before, within-refl}
use Rattle.hc_records.proofs.lemmas.Lengths.{opening-fits}
use Rattle.hc_records.proofs.lemmas.Lists.{All-append_right, AllPairs-across, AllPairs-append_right, AllPairs-head}
use Rattle.hc_records.proofs.lemmas.Packed.{place}
use Rattle.hc_records.proofs.lemmas.Spans.{IsListFrom, carried-areas, cut-raised, drops-after_it, filter-drops, filter-stays, key_lies_in, seen-raised}
use Rattle.hc_records.proofs.Alone.{before-count, first-raised, packed-alone}
use Rattle.hc_records.proofs.Touched.{spans_from}

-- a span that begins at an area which doesn't fit
record IsCutAt (front : Front) (list : List Keyed) (span : Interval) (before : List Keyed) (area : Keyed) (after : List Keyed) : Type 0 where
  pub whole : list ≡ before ++ area ∷ after
  pub other : fits (front_after front before) area ≡ false
  pub first : area.0 ≡ span.0
  pub next : span.1 ≡ next_cut (front_with (placed_at (front_after front before) area)) after

-- a span that begins at the first key, or at such an area
abbrev IsSpanOf : Front → List Keyed → Key → Interval → Type 0
IsSpanOf front list begun span =
    ((span.0 ≡ begun) × (span.1 ≡ next_cut front list)) ⊎ ((before : List Keyed) × (area : Keyed) × (after : List Keyed) × IsCutAt front list span before area after)

after_it-first : (front : Front) (first : Keyed) (list : List Keyed) (span : Interval) (before : List Keyed) (area : Keyed) (after : List Keyed) →
    IsCutAt (front_with (placed_at front first)) list span before area after → IsCutAt front (first ∷ list) span (first ∷ before) area after
after_it-first front first list span before area after at = record { whole = ap (λ (rest : List Keyed). first ∷ rest) at.whole; other = at.other; first = at.first; next = at.next }

fits-step : (front : Front) (first : Keyed) (list : List Keyed) (begun : Key) (span : Interval) → fits front first ≡ true → IsSpanOf (front_with (placed_at front first)) list begun span →
    IsSpanOf front (first ∷ list) begun span
fits-step front first list begun span test (inl (is, cut)) = inl (is, cut ∙ sym (cond-true (fits front first) (next_cut (front_with (placed_at front first)) list) first.0 test))
fits-step front first list begun span test (inr (before, area, after, at)) = inr (first ∷ before, area, after, after_it-first front first list span before area after at)

cut-step : (front : Front) (first : Keyed) (list : List Keyed) (begun : Key) (span : Interval) → fits front first ≡ false → IsSpanOf (front_with (placed_at front first)) list first.0 span →
    IsSpanOf front (first ∷ list) begun span
cut-step front first list begun span test (inl (is, cut)) = inr ([], first, list, record { whole = refl; other = test; first = sym is; next = cut })
cut-step front first list begun span test (inr (before, area, after, at)) = inr (first ∷ before, area, after, after_it-first front first list span before area after at)

-- the first span, or a later one
first-or : (begun next : Key) (rest : List Interval) (span : Interval) → Contains ((begun, next) ∷ rest) span → ((span.0 ≡ begun) × (span.1 ≡ next)) ⊎ Contains rest span
first-or begun next rest span (zero, within, found) = inl (ap (λ (s : Interval). s.0) (sym found), ap (λ (s : Interval). s.1) (sym found))
first-or begun next rest span (suc k, within, found) = inr (k, omega arith, found)

walk-cut : (front : Front) (first : Keyed) (list : List Keyed) (begun : Key) (span : Interval) (cuts : List Key) → fits front first ≡ false →
    ((from : Key) → Contains (spans_from from cuts) span → IsSpanOf (front_with (placed_at front first)) list from span) →
    ((span.0 ≡ begun) × (span.1 ≡ first.0)) ⊎ Contains (spans_from first.0 cuts) span → IsSpanOf front (first ∷ list) begun span
walk-cut front first list begun span cuts test later (inl (is, next)) = inl (is, next ∙ sym (cond-false (fits front first) (next_cut (front_with (placed_at front first)) list) first.0 test))
walk-cut front first list begun span cuts test later (inr rest) = cut-step front first list begun span test (later first.0 rest)

walk-by : (fitting : Bool) (front : Front) (first : Keyed) (list : List Keyed) (begun : Key) (span : Interval) (cuts : List Key) → fits front first ≡ fitting →
    ((from : Key) → Contains (spans_from from cuts) span → IsSpanOf (front_with (placed_at front first)) list from span) →
    Contains (spans_from begun (if fitting then cuts else first.0 ∷ cuts)) span → IsSpanOf front (first ∷ list) begun span
walk-by true front first list begun span cuts test later contains = fits-step front first list begun span test (later begun contains)
walk-by false front first list begun span cuts test later contains =
    walk-cut front first list begun span cuts test later (first-or begun first.0 (spans_from first.0 cuts) span contains)

last-span : (front : Front) (begun : Key) (span : Interval) → ((span.0 ≡ begun) × (span.1 ≡ END)) ⊎ Contains [] span → IsSpanOf front [] begun span
last-span front begun span (inl is) = inl is
last-span front begun span (inr (k, within, found)) = absurd (omega arith)

span-walk : (front : Front) (list : List Keyed) (begun : Key) (span : Interval) → Contains (spans_from begun (cuts_from front list)) span → IsSpanOf front list begun span
span-walk front [] begun span contains = last-span front begun span (first-or begun END [] span contains)
span-walk front (first ∷ list) begun span contains =
    let front' = front_with (placed_at front first) in
    walk-by (fits front first) front first list begun span (cuts_from front' list) refl (λ from. span-walk front' list from span) contains

list-span : (list : List Keyed) (span : Interval) → All IsPackable list → Contains (spans (boundaries list)) span → IsSpanOf empty_front list START span
list-span list span all contains =
    span-walk empty_front list START span (subst (λ (keys : List Key). Contains (spans_from START keys) span) (later_keys-cuts list all) contains)

-- the areas of a task's list from a key on
pub areas-from : (first : Key) (list : List Keyed) → IsTaskList list → IsListFrom first (areas_from first list)
areas-from first list is = record {
  packable = All-filter (λ area. is_within first area.0) IsPackable list is.packable;
  ascends = AllPairs-filter (λ a b. IsTrue (is_before a.0 b.0)) (λ area. is_within first area.0) list is.ascends;
  from = filter_passes (λ area. is_within first area.0) list;
  below = All-filter (λ area. is_within first area.0) (λ area. is_before area.0 END ≡ true) list is.between.below;
}

-- from START on they are all of them
pub all-from : (list : List Keyed) → IsTaskList list → areas_from START list ≡ list
all-from list is =
    filter-stays (λ area. is_within START area.0) list
    (All-weaker (λ area. is_before START area.0 ≡ true) (λ area. is_within START area.0 ≡ true) (λ area above. within-from_before START area.0 above) list is.between.above)

-- so the whole list is one from START on
pub task-list-from : (list : List Keyed) → IsTaskList list → IsListFrom START list
task-list-from list is = subst (λ (areas : List Keyed). IsListFrom START areas) (all-from list is) (areas-from START list is)

start-alone : (list : List Keyed) → IsTaskList list → IsCutAlone list (START, next_cut empty_front list)
start-alone list is =
    let whole = all-from list is in record {
      next = ap (next_cut empty_front) (sym whole);
      areas =
          ap (map seen_area) (carried-areas (START, next_cut empty_front list) empty_front list (task-list-from list is) refl)
          ∙ ap (λ (areas : List Keyed). map seen_area (places_in_span empty_front areas)) (sym whole);
    }

-- from a cut on they are those that are there
cut-areas : (before : List Keyed) (area : Keyed) (after : List Keyed) → IsTaskList (before ++ area ∷ after) → areas_from area.0 (before ++ area ∷ after) ≡ area ∷ after
cut-areas before area after is =
    let test = λ (other : Keyed). is_within area.0 other.0 in
    let lower = AllPairs-across (λ a b. IsTrue (is_before a.0 b.0)) before area after is.ascends in
    let higher = AllPairs-head (λ a b. IsTrue (is_before a.0 b.0)) area after (AllPairs-append_right (λ a b. IsTrue (is_before a.0 b.0)) before (area ∷ after) is.ascends) in
    filter-append test before (area ∷ after)
    ∙ ap (λ (front : List Keyed). front ++ filter test (area ∷ after))
    (filter-drops test before (All-weaker (λ a. is_before a.0 area.0 ≡ true) (λ a. is_within area.0 a.0 ≡ false) (λ a low. before-apart a.0 area.0 low) before lower))
    ∙ filter-stays test (area ∷ after)
    (All-cons (λ a. is_within area.0 a.0 ≡ true) area after (within-refl area.0)
    (All-weaker (λ a. is_before area.0 a.0 ≡ true) (λ a. is_within area.0 a.0 ≡ true) (λ a high. within-from_before area.0 a.0 high) after higher))

cut-alone : (before : List Keyed) (area : Keyed) (after : List Keyed) → IsTaskList (before ++ area ∷ after) → fits (front_after empty_front before) area ≡ false →
    IsCutAlone (before ++ area ∷ after) (area.0, next_cut (front_with (placed_at (front_after empty_front before) area)) after)
cut-alone before area after is other =
    let list = before ++ area ∷ after in
    let rest = area ∷ after in
    let front = front_after empty_front before in
    let count = datagram_count (packed empty_front before) in
    let narrow = (All-head IsPackable area after (All-append_right IsPackable before rest is.packable)).narrow in
    let own = cut-areas before area after is in
    let placed = first-raised count front area narrow (before-count before area narrow other) other in
    let end = next_cut (front_with (placed_at front area)) after in
    let span : Interval = (area.0, end) in
    let alone : end ≡ next_cut empty_front rest =
    ap (λ (p : Placed). next_cut (front_with p) after) placed
    ∙ cut-raised count (front_with (placed_at empty_front area)) after
    ∙ sym (cond-true (fits empty_front area) (next_cut (front_with (placed_at empty_front area)) after) area.0 (opening-fits area narrow)) in
    let later : begins_later (placed_at front area) ≡ true = ap (λ fitting. begins_later (place fitting front area)) other ∙ other-begins front area in
    let lower = AllPairs-across (λ a b. IsTrue (is_before a.0 b.0)) before area after is.ascends in
    let list_from = subst (λ (areas : List Keyed). IsListFrom area.0 areas) own (areas-from area.0 list is) in
    record {
      next = alone ∙ ap (next_cut empty_front) (sym own);
      areas =
          ap (λ (places : List Placed). map seen_area (filter (lies_in span) places)) (packed-alone before area after is.packable later)
          ∙ ap (map seen_area) (filter-append (lies_in span) (packed empty_front before) (map (raised count) (packed empty_front rest)))
          ∙ ap (λ (front : List Placed). map seen_area (front ++ filter (lies_in span) (map (raised count) (packed empty_front rest))))
          (drops-after_it span empty_front before
          (All-weaker (λ a. is_before a.0 area.0 ≡ true) (λ a. key_lies_in span a.0 ≡ false)
          (λ a low. and_left (is_within area.0 a.0) (is_before a.0 end) (before-apart a.0 area.0 low)) before lower))
          ∙ seen-raised span count (packed empty_front rest)
          ∙ ap (map seen_area) (carried-areas span empty_front rest list_from (sym alone))
          ∙ ap (λ (areas : List Keyed). map seen_area (places_in_span empty_front areas)) (sym own);
    }

alone-by : (list : List Keyed) (span : Interval) → IsTaskList list → IsSpanOf empty_front list START span → IsCutAlone list span
alone-by list span is (inl (begun, next)) =
    subst (λ (key : Key). IsCutAlone list (key, span.1)) (sym begun) (subst (λ (key : Key). IsCutAlone list (START, key)) (sym next) (start-alone list is))
alone-by list span is (inr (before, area, after, at)) =
    let is' = subst (λ (l : List Keyed). IsTaskList l) at.whole is in
    subst (λ (l : List Keyed). IsCutAlone l span) (sym at.whole)
    (subst (λ (key : Key). IsCutAlone (before ++ area ∷ after) (key, span.1)) at.first
    (subst (λ (key : Key). IsCutAlone (before ++ area ∷ after) (area.0, key)) (sym at.next) (cut-alone before area after is' at.other)))

pub span-alone : (list : List Keyed) (span : Interval) → IsTaskList list → Contains (spans (boundaries list)) span → IsCutAlone list span
span-alone list span is contains = alone-by list span is (list-span list span is.packable contains)

-- a span begins before END
start-before : (list : List Keyed) (span : Interval) → IsTaskList list → IsSpanOf empty_front list START span → is_before span.0 END ≡ true
start-before list span is (inl (begun, next)) = ap (λ (key : Key). is_before key END) begun
start-before list span is (inr (before, area, after, at)) =
    let is' = subst (λ (l : List Keyed). IsTaskList l) at.whole is in
    ap (λ (key : Key). is_before key END) (sym at.first)
    ∙ All-head (λ a. is_before a.0 END ≡ true) area after (All-append_right (λ a. is_before a.0 END ≡ true) before (area ∷ after) is'.between.below)

pub span-begins : (list : List Keyed) (span : Interval) → IsTaskList list → Contains (spans (boundaries list)) span → is_before span.0 END ≡ true
span-begins list span is contains = start-before list span is (list-span list span is.packable contains)
