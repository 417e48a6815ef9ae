-- The spans of a task: where each ends, what its datagram carries, and which of them an edit leaves as they were.
use Rattle.std.proofs.Common.{◌≡◌, ℕ, ◌<◌, ◌⊎◌, inl, inr, Bool, true, false, List, [], ◌∷◌, refl, sym, ap, subst, ◌∙◌, arith, if◌then◌else◌}
use Rattle.std.specs.Prelude.{All, IsTrue, filter, map, ◌&&◌}
use Rattle.std.proofs.lemmas.Bool.{and_from, and_right, cond-false, cond-true, cond_both}
use Rattle.std.proofs.lemmas.List.Elements.{All-cons, All-head, All-tail, All-weaker}
use Rattle.hc_records.specs.declared.keys.Key.{Key}
use Rattle.hc_records.specs.declared.keys.TheConstants.Key.{END}
use Rattle.hc_records.specs.Keys.{same_key, is_before, is_within}
use Rattle.hc_records.specs.TaskList.{Keyed}
use Rattle.hc_records.specs.Packing.{Front, Placed, fits, placed_at, front_with, packed}
use Rattle.hc_records.specs.Boundaries.{Interval, width_in}
use Rattle.hc_records.specs.Laws.{Ascends, IsPackable, raised}
use Rattle.hc_records.specs.SpanLaws.{places_in_span, lies_in, next_cut, seen_area}
use Rattle.hc_records.proofs.lemmas.KeyOrder.{before-other, before-trans, key-order, same_key-refl, same_key-same, within-apart, within-from_before, within-refl, within-trans}
use Rattle.hc_records.proofs.lemmas.Lists.{AllPairs-head, AllPairs-tail}
use Rattle.hc_records.proofs.lemmas.Packed.{place}
use Rattle.hc_records.proofs.Alone.{raised_front, place-raised}

-- what a filter leaves

pub filter-stays : {X : Type 0} (test : X → Bool) (xs : List X) → All (λ x. test x ≡ true) xs → filter test xs ≡ xs
filter-stays test [] all = refl
filter-stays test (x ∷ xs) all =
    cond-true (test x) (x ∷ filter test xs) (filter test xs) (All-head (λ y. test y ≡ true) x xs all)
    ∙ ap (λ (rest : List _). x ∷ rest) (filter-stays test xs (All-tail (λ y. test y ≡ true) x xs all))

pub filter-drops : {X : Type 0} (test : X → Bool) (xs : List X) → All (λ x. test x ≡ false) xs → filter test xs ≡ []
filter-drops test [] all = refl
filter-drops test (x ∷ xs) all =
    cond-false (test x) (x ∷ filter test xs) (filter test xs) (All-head (λ y. test y ≡ false) x xs all)
    ∙ filter-drops test xs (All-tail (λ y. test y ≡ false) x xs all)

-- areas from a key on: packable, and their keys ascend up to END
pub record IsListFrom (first : Key) (list : List Keyed) : Type 0 where
  pub packable : All IsPackable list
  pub ascends : Ascends list
  pub from : All (λ area. is_within first area.0 ≡ true) list
  pub below : All (λ area. is_before area.0 END ≡ true) list

pub list-tail : (first : Key) (area : Keyed) (areas : List Keyed) → IsListFrom first (area ∷ areas) → IsListFrom first areas
list-tail first area areas is = record {
  packable = All-tail IsPackable area areas is.packable;
  ascends = AllPairs-tail (λ a b. IsTrue (is_before a.0 b.0)) area areas is.ascends;
  from = All-tail (λ a. is_within first a.0 ≡ true) area areas is.from;
  below = All-tail (λ a. is_before a.0 END ≡ true) area areas is.below;
}

pub list-after_it : (first : Key) (area : Keyed) (areas : List Keyed) → IsListFrom first (area ∷ areas) → All (λ other. is_before area.0 other.0 ≡ true) areas
list-after_it first area areas is = AllPairs-head (λ a b. IsTrue (is_before a.0 b.0)) area areas is.ascends

-- what holds of each key of a list, and of END, holds of the next cut
pub cut-all : (P : Key → Type 0) (front : Front) (list : List Keyed) → All (λ area. P area.0) list → P END → P (next_cut front list)
cut-all P front [] all end = end
cut-all P front (area ∷ areas) all end =
    let front' = front_with (placed_at front area) in
    cond_both (fits front area) (next_cut front' areas) area.0 P (λ yes. cut-all P front' areas (All-tail (λ a. P a.0) area areas all) end) (λ no. All-head (λ a. P a.0) area areas all)

-- the next cut isn't before the first area
cut-from : (first : Key) (front : Front) (area : Keyed) (areas : List Keyed) → IsListFrom first (area ∷ areas) → is_within area.0 (next_cut front (area ∷ areas)) ≡ true
cut-from first front area areas is =
    cut-all (λ key. is_within area.0 key ≡ true) front (area ∷ areas)
    (All-cons (λ other. is_within area.0 other.0 ≡ true) area areas (within-refl area.0)
    (All-weaker (λ other. is_before area.0 other.0 ≡ true) (λ other. is_within area.0 other.0 ≡ true) (λ other before. within-from_before area.0 other.0 before) areas (list-after_it first area areas is)))
    (within-from_before area.0 END (All-head (λ a. is_before a.0 END ≡ true) area areas is.below))

-- widths

pub width-here : (area : Keyed) (areas : List Keyed) (key : Key) → same_key area.0 key ≡ true → width_in (area ∷ areas) key ≡ area.1
width-here area areas key same = rw same refl

pub width-skip : (area : Keyed) (areas : List Keyed) (key : Key) → same_key area.0 key ≡ false → width_in (area ∷ areas) key ≡ width_in areas key
width-skip area areas key other = rw other refl

pub width-absent : (list : List Keyed) (key : Key) → All (λ area. same_key area.0 key ≡ false) list → width_in list key ≡ 0
width-absent [] key all = refl
width-absent (area ∷ areas) key all =
    width-skip area areas key (All-head (λ a. same_key a.0 key ≡ false) area areas all) ∙ width-absent areas key (All-tail (λ a. same_key a.0 key ≡ false) area areas all)

-- a key before all of a list isn't in it
pub width-before : (list : List Keyed) (key : Key) → All (λ area. is_before key area.0 ≡ true) list → width_in list key ≡ 0
width-before list key all = width-absent list key (All-weaker (λ area. is_before key area.0 ≡ true) (λ area. same_key area.0 key ≡ false) (λ area before. before-other key area.0 before) list all)

-- two lists give each key from one to another the same width
pub record Agree (first last : Key) (xs ys : List Keyed) : Type 0 where
  pub at : (key : Key) → is_within first key ≡ true → is_within key last ≡ true → width_in xs key ≡ width_in ys key

pub agree-by : (same : Bool) (first : Key) (x : Keyed) (xs ys : List Keyed) (key : Key) → same_key x.0 key ≡ same → IsListFrom first (x ∷ xs) → IsListFrom first (x ∷ ys) →
    width_in (x ∷ xs) key ≡ width_in (x ∷ ys) key → width_in xs key ≡ width_in ys key
agree-by true first x xs ys key test is is' agree =
    let here = same_key-same x.0 key test in
    subst (λ (k : Key). width_in xs k ≡ width_in ys k) here
    (width-before xs x.0 (list-after_it first x xs is) ∙ sym (width-before ys x.0 (list-after_it first x ys is')))
agree-by false first x xs ys key test is is' agree = sym (width-skip x xs key test) ∙ agree ∙ width-skip x ys key test

agree-tail : (first last : Key) (x : Keyed) (xs ys : List Keyed) → IsListFrom first (x ∷ xs) → IsListFrom first (x ∷ ys) → Agree first last (x ∷ xs) (x ∷ ys) → Agree first last xs ys
agree-tail first last x xs ys is is' agree = record {
  at = λ key low high. agree-by (same_key x.0 key) first x xs ys key refl is is' (agree.at key low high);
}

-- two lists that agree up to the next cut of the one have the same next cut, and carry the same up to it
abbrev pub IsCutSame : Front → Key → List Keyed → List Keyed → Type 0
IsCutSame front last xs ys = (next_cut front ys ≡ last) × (places_in_span front ys ≡ places_in_span front xs)

same-by : (fitting : Bool) (first cut cut' last : Key) (placed : Placed) (carry carry' : List Placed) → (if fitting then cut else first) ≡ last →
    (cut ≡ last → (cut' ≡ last) × (carry' ≡ carry)) →
    ((if fitting then cut' else first) ≡ last) × ((if fitting then placed ∷ carry' else []) ≡ (if fitting then placed ∷ carry else []))
same-by true first cut cut' last placed carry carry' is later = let both = later is in (both.0, ap (λ rest. placed ∷ rest) both.1)
same-by false first cut cut' last placed carry carry' is later = (is, refl)

none-some : (bits : ℕ) → 0 ≡ bits → 0 < bits → ⊥
none-some bits none some = omega arith

-- a list's first key isn't before the other's, whose width of it is 0
not-first : (first : Key) (x : Keyed) (xs : List Keyed) (y : Keyed) (ys : List Keyed) → IsListFrom first (x ∷ xs) → IsListFrom first (y ∷ ys) →
    width_in (x ∷ xs) x.0 ≡ width_in (y ∷ ys) x.0 → is_before x.0 y.0 ≡ true → ⊥
not-first first x xs y ys is is' agrees before =
    let absent = width-before (y ∷ ys) x.0 (All-cons (λ a. is_before x.0 a.0 ≡ true) y ys before
    (All-weaker (λ a. is_before y.0 a.0 ≡ true) (λ a. is_before x.0 a.0 ≡ true) (λ a front_with. before-trans x.0 y.0 a.0 before front_with) ys (list-after_it first y ys is'))) in
    let here = width-here x xs x.0 (same_key-refl x.0) in
    none-some x.1 (sym absent ∙ sym agrees ∙ here) (All-head IsPackable x xs is.packable).some

-- so both have the same first area
first-key : (first last : Key) (x : Keyed) (xs : List Keyed) (y : Keyed) (ys : List Keyed) → IsListFrom first (x ∷ xs) → IsListFrom first (y ∷ ys) →
    is_within x.0 last ≡ true → Agree first last (x ∷ xs) (y ∷ ys) → (is_before x.0 y.0 ≡ true) ⊎ ((is_before y.0 x.0 ≡ true) ⊎ (x.0 ≡ y.0)) → x.0 ≡ y.0
first-key first last x xs y ys is is' low agree (inl before) =
    absurd (not-first first x xs y ys is is' (agree.at x.0 (All-head (λ a. is_within first a.0 ≡ true) x xs is.from) low) before)
first-key first last x xs y ys is is' low agree (inr (inl before)) =
    let low' = within-trans y.0 x.0 last (within-from_before y.0 x.0 before) low in
    absurd (not-first first y ys x xs is' is (sym (agree.at y.0 (All-head (λ a. is_within first a.0 ≡ true) y ys is'.from) low')) before)
first-key first last x xs y ys is is' low agree (inr (inr same)) = same

first-area : (first last : Key) (x : Keyed) (xs : List Keyed) (y : Keyed) (ys : List Keyed) → IsListFrom first (x ∷ xs) → IsListFrom first (y ∷ ys) →
    is_within x.0 last ≡ true → Agree first last (x ∷ xs) (y ∷ ys) → x ≡ y
first-area first last x xs y ys is is' low agree =
    let key = first-key first last x xs y ys is is' low agree (key-order x.0 y.0) in
    let here = width-here x xs x.0 (same_key-refl x.0) in
    let there = width-here y ys x.0 (ap (λ (k : Key). same_key y.0 k) key ∙ same_key-refl y.0) in
    let bits : x.1 ≡ y.1 = sym here ∙ agree.at x.0 (All-head (λ a. is_within first a.0 ≡ true) x xs is.from) low ∙ there in
    ap (λ (k : Key). (k, x.1)) key ∙ ap (λ (n : ℕ). (y.0, n)) bits

pub same-cut : (first last : Key) (front : Front) (xs ys : List Keyed) → IsListFrom first xs → IsListFrom first ys → next_cut front xs ≡ last → Agree first last xs ys → IsCutSame front last xs ys
same-cut first last front [] [] is is' cut agree = (cut, refl)
same-cut first last front [] (y ∷ ys) is is' cut agree =
    let below = within-from_before y.0 END (All-head (λ a. is_before a.0 END ≡ true) y ys is'.below) in
    let agrees = agree.at y.0 (All-head (λ a. is_within first a.0 ≡ true) y ys is'.from) (subst (λ (k : Key). is_within y.0 k ≡ true) cut below) in
    absurd (none-some y.1 (agrees ∙ width-here y ys y.0 (same_key-refl y.0)) (All-head IsPackable y ys is'.packable).some)
same-cut first last front (x ∷ xs) [] is is' cut agree =
    let low = subst (λ (k : Key). is_within x.0 k ≡ true) cut (cut-from first front x xs is) in
    let agrees = agree.at x.0 (All-head (λ a. is_within first a.0 ≡ true) x xs is.from) low in
    absurd (none-some x.1 (sym agrees ∙ width-here x xs x.0 (same_key-refl x.0)) (All-head IsPackable x xs is.packable).some)
same-cut first last front (x ∷ xs) (y ∷ ys) is is' cut agree =
    let low = subst (λ (k : Key). is_within x.0 k ≡ true) cut (cut-from first front x xs is) in
    let same = first-area first last x xs y ys is is' low agree in
    let front' = front_with (placed_at front x) in
    let back = sym same in
    let is'' = subst (λ (z : Keyed). IsListFrom first (z ∷ ys)) back is' in
    let agree' = agree-tail first last x xs ys is is'' (subst (λ (z : Keyed). Agree first last (x ∷ xs) (z ∷ ys)) back agree) in
    subst (λ (z : Keyed). IsCutSame front last (x ∷ xs) (z ∷ ys)) same
    (same-by (fits front x) x.0 (next_cut front' xs) (next_cut front' ys) last (placed_at front x) (places_in_span front' xs) (places_in_span front' ys) cut
    (λ cut'. same-cut first last front' xs ys (list-tail first x xs is) (list-tail first x ys is'') cut' agree'))

-- what is packed from a key on, up to the next cut

-- an area lies in a span by its key
abbrev pub key_lies_in : Interval → Key → Bool
key_lies_in span key = is_within span.0 key && is_before key span.1

pub place-key : (fitting : Bool) (front : Front) (area : Keyed) → (place fitting front area).key ≡ area.0
place-key true front area = refl
place-key false front area = refl

-- the places of areas whose keys aren't in a span
pub drops-after_it : (span : Interval) (front : Front) (list : List Keyed) → All (λ area. key_lies_in span area.0 ≡ false) list → filter (lies_in span) (packed front list) ≡ []
drops-after_it span front [] all = refl
drops-after_it span front (area ∷ areas) all =
    let placed = placed_at front area in
    let outside : lies_in span placed ≡ false =
    ap (key_lies_in span) (place-key (fits front area) front area) ∙ All-head (λ a. key_lies_in span a.0 ≡ false) area areas all in
    cond-false (lies_in span placed) (placed ∷ filter (lies_in span) (packed (front_with placed) areas)) (filter (lies_in span) (packed (front_with placed) areas)) outside
    ∙ drops-after_it span (front_with placed) areas (All-tail (λ a. key_lies_in span a.0 ≡ false) area areas all)

carried-by : (fitting : Bool) (span : Interval) (cut first : Key) (placed : Placed) (rest carry : List Placed) →
    (if fitting then cut else first) ≡ span.1 → placed.key ≡ first → is_within span.0 first ≡ true → (fitting ≡ true → is_before first cut ≡ true) →
    (cut ≡ span.1 → filter (lies_in span) rest ≡ carry) → (first ≡ span.1 → filter (lies_in span) rest ≡ []) →
    filter (lies_in span) (placed ∷ rest) ≡ (if fitting then placed ∷ carry else [])
carried-by true span cut first placed rest carry next key low below goes stops =
    let high : is_before first span.1 ≡ true = subst (λ (k : Key). is_before first k ≡ true) next (below refl) in
    let inside : lies_in span placed ≡ true = ap (key_lies_in span) key ∙ and_from (is_within span.0 first) (is_before first span.1) low high in
    cond-true (lies_in span placed) (placed ∷ filter (lies_in span) rest) (filter (lies_in span) rest) inside ∙ ap (λ (more : List Placed). placed ∷ more) (goes next)
carried-by false span cut first placed rest carry next key low below goes stops =
    let high : is_before first span.1 ≡ false = within-apart span.1 first (subst (λ (k : Key). is_within k first ≡ true) next (within-refl first)) in
    let outside : lies_in span placed ≡ false = ap (key_lies_in span) key ∙ and_right (is_within span.0 first) (is_before first span.1) high in
    cond-false (lies_in span placed) (placed ∷ filter (lies_in span) rest) (filter (lies_in span) rest) outside ∙ stops next

-- the areas from a key on that lie in the span up to the next cut are those that are carried
pub carried-areas : (span : Interval) (front : Front) (list : List Keyed) → IsListFrom span.0 list → next_cut front list ≡ span.1 → filter (lies_in span) (packed front list) ≡ places_in_span front list
carried-areas span front [] is next = refl
carried-areas span front (area ∷ areas) is next =
    let front' = front_with (placed_at front area) in
    let rest = list-after_it span.0 area areas is in
    carried-by (fits front area) span (next_cut front' areas) area.0 (placed_at front area) (packed front' areas) (places_in_span front' areas) next
    (place-key (fits front area) front area) (All-head (λ a. is_within span.0 a.0 ≡ true) area areas is.from)
    (λ fitting. cut-all (λ key. is_before area.0 key ≡ true) front' areas rest (All-head (λ a. is_before a.0 END ≡ true) area areas is.below))
    (λ cut. carried-areas span front' areas (list-tail span.0 area areas is) cut)
    (λ stop. drops-after_it span front' areas
    (All-weaker (λ other. is_before area.0 other.0 ≡ true) (λ other. key_lies_in span other.0 ≡ false)
    (λ other before. and_right (is_within span.0 other.0) (is_before other.0 span.1)
    (within-apart span.1 other.0 (subst (λ (k : Key). is_within k other.0 ≡ true) stop (within-from_before area.0 other.0 before))))
    areas rest))

-- a front with more datagrams before it is cut where it would be cut, and its areas are seen the same

raised-after_it : (fitting : Bool) (datagrams : ℕ) (front : Front) (area : Keyed) → front_with (place fitting (raised_front datagrams front) area) ≡ raised_front datagrams (front_with (place fitting front area))
raised-after_it fitting datagrams front area = ap front_with (place-raised fitting datagrams front area)

pub cut-raised : (datagrams : ℕ) (front : Front) (list : List Keyed) → next_cut (raised_front datagrams front) list ≡ next_cut front list
cut-raised datagrams front [] = refl
cut-raised datagrams front (area ∷ areas) =
    ap (λ (cut : Key). if fits front area then cut else area.0)
    (ap (λ (f : Front). next_cut f areas) (raised-after_it (fits front area) datagrams front area) ∙ cut-raised datagrams (front_with (placed_at front area)) areas)

seen-by : (inside : Bool) (datagrams : ℕ) (area : Placed) (rest rest' : List Placed) → map seen_area rest ≡ map seen_area rest' →
    map seen_area (if inside then raised datagrams area ∷ rest else rest) ≡ map seen_area (if inside then area ∷ rest' else rest')
seen-by true datagrams area rest rest' same = ap (λ (more : List (Key × (ℕ × ℕ))). seen_area area ∷ more) same
seen-by false datagrams area rest rest' same = same

pub seen-raised : (span : Interval) (datagrams : ℕ) (areas : List Placed) → map seen_area (filter (lies_in span) (map (raised datagrams) areas)) ≡ map seen_area (filter (lies_in span) areas)
seen-raised span datagrams [] = refl
seen-raised span datagrams (area ∷ areas) =
    seen-by (lies_in span area) datagrams area (filter (lies_in span) (map (raised datagrams) areas)) (filter (lies_in span) areas) (seen-raised span datagrams areas)
