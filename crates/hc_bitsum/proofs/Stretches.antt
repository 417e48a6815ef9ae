-- The areas from one place up to another, or between two keys, and how far they fill a datagram.
use Rattle.std.specs.Prelude.{All, filter, nat_lt}
use Rattle.std.proofs.Common.{◌≡◌, ℕ, zero, suc, ◌+◌, ◌-◌, ◌*◌, ◌<◌, ◌≤◌, ◌&&◌, ◌==◌, Bool, true, false, List, [], ◌∷◌, ◌++◌, length, drop, take, refl, sym, ap, ◌∙◌, arith, if◌then◌else◌}
use Rattle.std.proofs.Math.Seq.{drop-append-add, take-add, take-append_seam}
use Rattle.std.proofs.lemmas.Bool.Decides.{nat_tests}
use Rattle.std.proofs.lemmas.List.Elements.{All-filter, filter-append}
use Rattle.hc_records.specs.declared.records.Dir.{Dir}
use Rattle.hc_records.specs.declared.keys.Key.{Key}
use Rattle.hc_records.specs.Keys.{is_before, is_within}
use Rattle.hc_records.specs.SpanLaws.{areas_from}
use Rattle.hc_records.specs.TaskList.{Keyed}
use Rattle.hc_bitsum.specs.declared.branch.Branch.{Branch}
use Rattle.hc_bitsum.specs.declared.filled.Filled.{Filled}
use Rattle.hc_bitsum.specs.Branch.{IsBranch, branch_slots}
use Rattle.hc_bitsum.specs.Filling.{areas_between, filled_with_area, filled_with_areas}
use Rattle.hc_bitsum.specs.Places.{AreFrom}
use Rattle.hc_bitsum.specs.Rows.{part}
use Rattle.hc_bitsum.specs.Slots.{IsNarrow, bits_at, key_at, stretch}
use Rattle.hc_bitsum.specs.Tree.{has_width}
use Rattle.hc_bitsum.proofs.From.{reached-by}
use Rattle.hc_bitsum.proofs.lemmas.Fillings.{with_areas-append}
use Rattle.hc_bitsum.proofs.Parts.{length-part, part-split, are_placed-part}
use Rattle.hc_bitsum.proofs.Room.{with_areas-few}
use Rattle.hc_bitsum.proofs.Scan.{with_areas-le}

-- a stretch and the one after it

abbrev no-areas : List Keyed
no-areas = []

drop-none : (n : ℕ) → drop n no-areas ≡ no-areas
drop-none zero = refl
drop-none (suc n) = refl

take-none : (n m : ℕ) → take n (drop m no-areas) ≡ no-areas
take-none zero m = refl
take-none (suc n) zero = refl
take-none (suc n) (suc m) = refl

drop-more : (n m : ℕ) (xs : List Keyed) → drop m (drop n xs) ≡ drop (n + m) xs
drop-more zero m xs = ap (λ k. drop k xs) (omega arith)
drop-more (suc n) m [] =
    let more : suc n + m ≡ suc (n + m) = omega arith in
    drop-none m ∙ sym (ap (λ k. drop k no-areas) more)
drop-more (suc n) m (x ∷ xs) =
    let more : suc n + m ≡ suc (n + m) = omega arith in
    drop-more n m xs ∙ sym (ap (λ k. drop k (x ∷ xs)) more)

pub stretch-split : (first mid end : ℕ) (xs : List Keyed) → first ≤ mid → mid ≤ end → stretch first end xs ≡ stretch first mid xs ++ stretch mid end xs
stretch-split first mid end xs low high =
    let all : end - first ≡ (mid - first) + (end - mid) = omega arith in
    let there : first + (mid - first) ≡ mid = omega arith in
    ap (λ n. take n (drop first xs)) all
    ∙ take-add (mid - first) (end - mid) (drop first xs)
    ∙ ap (λ ys. stretch first mid xs ++ take (end - mid) ys) (drop-more first (mid - first) xs ∙ ap (λ n. drop n xs) there)

-- they fill a datagram one after the other
pub filled-on : (filled : Filled) (first mid end : ℕ) (xs : List Keyed) → first ≤ mid → mid ≤ end
    → filled_with_areas (filled_with_areas filled (stretch first mid xs)) (stretch mid end xs) ≡ filled_with_areas filled (stretch first end xs)
filled-on filled first mid end xs low high =
    sym (ap (filled_with_areas filled) (stretch-split first mid end xs low high) ∙ with_areas-append filled (stretch first mid xs) (stretch mid end xs))

-- the first of them fills it no further
pub filled-low : (filled : Filled) (first mid end : ℕ) (xs : List Keyed) → first ≤ mid → mid ≤ end
    → (filled_with_areas filled (stretch first mid xs)).bit ≤ (filled_with_areas filled (stretch first end xs)).bit
filled-low filled first mid end xs low high =
    let same = ap (λ (r : Filled). r.bit) (filled-on filled first mid end xs low high) in
    let more = with_areas-le (stretch mid end xs) (filled_with_areas filled (stretch first mid xs)) in
    omega arith

-- one more area

drop-at : (dir : Dir) (place at : ℕ) (xs : List Keyed) → AreFrom dir place xs → at < length xs → drop at xs ≡ (key_at dir (place + at), bits_at at xs) ∷ drop (at + 1) xs
drop-at dir place at [] are_placed h = absurd (omega arith)
drop-at dir place zero (x ∷ xs) are_placed h =
    let here : place + 0 ≡ place = omega arith in
    rw here (ap (λ (key : Key). (key, x.1) ∷ xs) are_placed.0)
drop-at dir place (suc at) (x ∷ xs) are_placed h =
    let there : place + suc at ≡ place + 1 + at = omega arith in
    let more : suc at + 1 ≡ suc (at + 1) = omega arith in
    rw (there, more) (drop-at dir (place + 1) at xs are_placed.1 (omega arith))

pub stretch-one : (dir : Dir) (first at : ℕ) (xs : List Keyed) → AreFrom dir 0 xs → first ≤ at → at < length xs
    → stretch first (at + 1) xs ≡ stretch first at xs ++ (key_at dir at, bits_at at xs) ∷ []
stretch-one dir first at xs are_placed low h =
    let one : at + 1 - at ≡ suc zero = omega arith in
    let here : 0 + at ≡ at = omega arith in
    stretch-split first at (at + 1) xs low (omega arith)
    ∙ ap (λ n. stretch first at xs ++ take n (drop at xs)) one
    ∙ ap (λ ys. stretch first at xs ++ take (suc zero) ys) (drop-at dir 0 at xs are_placed h)
    ∙ ap (λ n. stretch first at xs ++ (key_at dir n, bits_at at xs) ∷ []) here

pub filled-one : (dir : Dir) (filled end : Filled) (first at : ℕ) (xs : List Keyed) → AreFrom dir 0 xs → first ≤ at → at < length xs
    → end ≡ filled_with_area (filled_with_areas filled (stretch first at xs)) (key_at dir at, bits_at at xs) → end ≡ filled_with_areas filled (stretch first (at + 1) xs)
filled-one dir filled end first at xs are_placed low h is =
    is
    ∙ sym (ap (filled_with_areas filled) (stretch-one dir first at xs are_placed low h)
    ∙ with_areas-append filled (stretch first at xs) ((key_at dir at, bits_at at xs) ∷ []))

pub stretch-none : (first end : ℕ) (xs : List Keyed) → end ≤ first → stretch first end xs ≡ []
stretch-none first end xs h =
    let none : end - first ≡ 0 = omega arith in
    ap (λ n. take n (drop first xs)) none

-- the keys of a branch's areas
pub branch-keys : (branch : Branch) → IsBranch branch → AreFrom branch.dir 0 (branch_slots branch).areas
branch-keys branch is = are_placed-part branch.dir branch.rows.items 0 (length branch.rows.items) is.each (omega arith)

pub branch-size : (branch : Branch) → IsBranch branch → length (branch_slots branch).areas ≡ 8 * length branch.rows.items
branch-size branch is = length-part branch.dir branch.rows.items 0 (length branch.rows.items) is.each (omega arith)

-- the areas of some rows
pub part-stretch : (branch : Branch) (first end : ℕ) → IsBranch branch → first ≤ end → end ≤ length branch.rows.items
    → part branch.dir branch.rows.items first (end - first) ≡ stretch (8 * first) (8 * end) (branch_slots branch).areas
part-stretch branch first end is low high =
    let dir = branch.dir in
    let rows = branch.rows.items in
    let front = part dir rows 0 first in
    let own = part dir rows first (end - first) in
    let back = part dir rows end (length rows - end) in
    let before : length front ≡ 8 * first = length-part dir rows 0 first is.each (omega arith) in
    let size : length own ≡ 8 * (end - first) = length-part dir rows first (end - first) is.each (omega arith) in
    let none : 0 + first ≡ first = omega arith in
    let more : first + (end - first) ≡ end = omega arith in
    let all : length rows ≡ first + ((end - first) + (length rows - end)) = omega arith in
    let whole : part dir rows 0 (length rows) ≡ front ++ (own ++ back) =
    ap (part dir rows 0) all ∙ part-split dir rows 0 first ((end - first) + (length rows - end))
    ∙ ap (λ n. front ++ part dir rows n ((end - first) + (length rows - end))) none
    ∙ ap (λ xs. front ++ xs) (part-split dir rows first (end - first) (length rows - end) ∙ ap (λ n. own ++ part dir rows n (length rows - end)) more) in
    let place : 8 * first ≡ length front + 0 = omega arith in
    let many : 8 * end - 8 * first ≡ length own = omega arith in
    sym (ap (stretch (8 * first) (8 * end)) whole
    ∙ ap (λ n. take (8 * end - 8 * first) (drop n (front ++ (own ++ back)))) place
    ∙ ap (take (8 * end - 8 * first)) (drop-append-add front (own ++ back) 0)
    ∙ ap (λ n. take n (own ++ back)) many
    ∙ take-append_seam own back)

-- a datagram that is filled up to some rows, and then by these
pub rows-filled : (branch : Branch) (filled head : Filled) (first row end : ℕ) → IsBranch branch → first ≤ 8 * row → row ≤ end → end ≤ length branch.rows.items
    → head ≡ filled_with_areas filled (stretch first (8 * row) (branch_slots branch).areas)
    → filled_with_areas head (part branch.dir branch.rows.items row (end - row)) ≡ filled_with_areas filled (stretch first (8 * end) (branch_slots branch).areas)
rows-filled branch filled head first row end is low order within before =
    let areas = (branch_slots branch).areas in
    ap (λ (f : Filled). filled_with_areas f (part branch.dir branch.rows.items row (end - row))) before
    ∙ ap (filled_with_areas (filled_with_areas filled (stretch first (8 * row) areas))) (part-stretch branch row end is order within)
    ∙ filled-on filled first (8 * row) (8 * end) areas low (omega arith)

-- areas between two keys

one-between : (within before : Bool) (from until : Key) (area : Keyed) (areas : List Keyed) → is_within from area.0 ≡ within → is_before area.0 until ≡ before
    → areas_between from until (area ∷ areas) ≡ (if within && before then area ∷ areas_between from until areas else areas_between from until areas)
one-between true true from until area areas w b = rw (w, b) refl
one-between true false from until area areas w b = rw (w, b) refl
one-between false true from until area areas w b = rw w refl
one-between false false from until area areas w b = rw w refl

between-by : (low high : Bool) (place first end : ℕ) (from until : Key) (area : Keyed) (areas : List Keyed) → nat_lt place first ≡ low → nat_lt place end ≡ high
    → is_before area.0 from ≡ low → is_before area.0 until ≡ high
    → areas_between from until areas ≡ stretch (first - (place + 1)) (end - (place + 1)) areas
    → areas_between from until (area ∷ areas) ≡ stretch (first - place) (end - place) (area ∷ areas)
between-by true high place first end from until area areas l h from-test until-test rest =
    let below : place < first = grind (arith, nat_tests) in
    let skip : first - place ≡ suc (first - (place + 1)) = omega arith in
    let many : end - place - (first - place) ≡ end - (place + 1) - (first - (place + 1)) = omega arith in
    one-between false high from until area areas (sym (reached-by true area.0 from from-test)) until-test ∙ rest
    ∙ sym (ap (λ n. take n (drop (first - place) (area ∷ areas))) many
    ∙ ap (λ n. take (end - (place + 1) - (first - (place + 1))) (drop n (area ∷ areas))) skip)
between-by false true place first end from until area areas l h from-test until-test rest =
    let reached : first ≤ place = grind (arith, nat_tests) in
    let below : place < end = grind (arith, nat_tests) in
    let skip : first - place ≡ 0 = omega arith in
    let none : first - (place + 1) ≡ 0 = omega arith in
    let many : end - place - (first - place) ≡ suc (end - (place + 1)) = omega arith in
    let left : end - (place + 1) - (first - (place + 1)) ≡ end - (place + 1) = omega arith in
    one-between true true from until area areas (sym (reached-by false area.0 from from-test)) until-test
    ∙ ap (λ xs. area ∷ xs) (rest ∙ ap (λ n. take n (drop (first - (place + 1)) areas)) left ∙ ap (λ n. take (end - (place + 1)) (drop n areas)) none)
    ∙ sym (ap (λ n. take n (drop (first - place) (area ∷ areas))) many
    ∙ ap (λ n. take (suc (end - (place + 1))) (drop n (area ∷ areas))) skip)
between-by false false place first end from until area areas l h from-test until-test rest =
    let history : end ≤ place = grind (arith, nat_tests) in
    let none : end - place - (first - place) ≡ 0 = omega arith in
    let left : end - (place + 1) - (first - (place + 1)) ≡ 0 = omega arith in
    one-between true false from until area areas (sym (reached-by false area.0 from from-test)) until-test
    ∙ rest ∙ ap (λ n. take n (drop (first - (place + 1)) areas)) left
    ∙ sym (ap (λ n. take n (drop (first - place) (area ∷ areas))) none)

-- if places tell which keys come before two others, the areas between these are a stretch
between-stretch : (dir : Dir) (place first end : ℕ) (from until : Key) (xs : List Keyed) → AreFrom dir place xs
    → ((p : ℕ) → p < place + length xs → is_before (key_at dir p) from ≡ nat_lt p first)
    → ((p : ℕ) → p < place + length xs → is_before (key_at dir p) until ≡ nat_lt p end)
    → areas_between from until xs ≡ stretch (first - place) (end - place) xs
between-stretch dir place first end from until [] are_placed low high = sym (take-none (end - place - (first - place)) (first - place))
between-stretch dir place first end from until (area ∷ areas) are_placed low high =
    between-by (nat_lt place first) (nat_lt place end) place first end from until area areas refl refl
    (ap (λ (key : Key). is_before key from) are_placed.0 ∙ low place (omega arith))
    (ap (λ (key : Key). is_before key until) are_placed.0 ∙ high place (omega arith))
    (between-stretch dir (place + 1) first end from until areas are_placed.1 (λ p h. low p (omega arith)) (λ p h. high p (omega arith)))

-- of a branch
pub branch-between : (branch : Branch) (rows first end : ℕ) (from until : Key) → IsBranch branch → rows ≡ length branch.rows.items
    → ((p : ℕ) → p < 8 * rows → is_before (key_at branch.dir p) from ≡ nat_lt p first)
    → ((p : ℕ) → p < 8 * rows → is_before (key_at branch.dir p) until ≡ nat_lt p end)
    → areas_between from until (branch_slots branch).areas ≡ stretch first end (branch_slots branch).areas
branch-between branch rows first end from until is many low high =
    let areas = (branch_slots branch).areas in
    let size = branch-size branch is in
    let skip : first - 0 ≡ first = omega arith in
    let most : end - 0 ≡ end = omega arith in
    between-stretch branch.dir 0 first end from until areas (branch-keys branch is) (λ p h. low p (omega arith)) (λ p h. high p (omega arith))
    ∙ ap (λ n. stretch n (end - 0) areas) skip ∙ ap (λ n. stretch first n areas) most

-- in both directions, of the areas with a width

wide-by : (wide : Bool) (x : Keyed) (xs : List Keyed) (filled : Filled) → has_width x ≡ wide → ((next : Filled) → filled_with_areas next (filter has_width xs) ≡ filled_with_areas next xs)
    → filled_with_areas filled (if wide then x ∷ filter has_width xs else filter has_width xs) ≡ filled_with_areas (filled_with_area filled x) xs
wide-by true x xs filled e rest = rest (filled_with_area filled x)
wide-by false x xs filled e rest = let none : (x.1 == 0) ≡ true = grind (arith, nat_tests) in rw none (rest filled)

-- an area without a width fills nothing
filled-wide : (filled : Filled) (xs : List Keyed) → filled_with_areas filled (filter has_width xs) ≡ filled_with_areas filled xs
filled-wide filled [] = refl
filled-wide filled (x ∷ xs) = wide-by (has_width x) x xs filled refl (λ next. filled-wide next xs)

swap-by : (a b : Bool) (p q : Keyed → Bool) (x : Keyed) (xs : List Keyed) → p x ≡ a → q x ≡ b → filter p (filter q xs) ≡ filter q (filter p xs)
    → filter p (if b then x ∷ filter q xs else filter q xs) ≡ filter q (if a then x ∷ filter p xs else filter p xs)
swap-by true true p q x xs own other rest = rw (own, other) (ap (λ ys. x ∷ ys) rest)
swap-by true false p q x xs own other rest = rw other rest
swap-by false true p q x xs own other rest = rw own rest
swap-by false false p q x xs own other rest = rest

filter-swap : (p q : Keyed → Bool) (xs : List Keyed) → filter p (filter q xs) ≡ filter q (filter p xs)
filter-swap p q [] = refl
filter-swap p q (x ∷ xs) = swap-by (p x) (q x) p q x xs refl refl (filter-swap p q xs)

pub between-wide : (from until : Key) (xs : List Keyed) → areas_between from until (filter has_width xs) ≡ filter has_width (areas_between from until xs)
between-wide from until xs =
    ap (filter (λ area. is_before area.0 until)) (filter-swap (λ area. is_within from area.0) has_width xs)
    ∙ filter-swap (λ area. is_before area.0 until) has_width (areas_from from xs)

pub between-append : (from until : Key) (xs ys : List Keyed) → areas_between from until (xs ++ ys) ≡ areas_between from until xs ++ areas_between from until ys
between-append from until xs ys =
    ap (filter (λ area. is_before area.0 until)) (filter-append (λ area. is_within from area.0) xs ys)
    ∙ filter-append (λ area. is_before area.0 until) (areas_from from xs) (areas_from from ys)

pub filled-both : (from until : Key) (filled : Filled) (outputs inputs : List Keyed)
    → filled_with_areas (filled_with_areas filled (areas_between from until outputs)) (areas_between from until inputs)
    ≡ filled_with_areas filled (areas_between from until (filter has_width (outputs ++ inputs)))
filled-both from until filled outputs inputs =
    sym (ap (filled_with_areas filled) (between-wide from until (outputs ++ inputs))
    ∙ filled-wide filled (areas_between from until (outputs ++ inputs))
    ∙ ap (filled_with_areas filled) (between-append from until outputs inputs)
    ∙ with_areas-append filled (areas_between from until outputs) (areas_between from until inputs))

-- they end low

unchanged-few : (passes : Bool) (x : Keyed) (unchanged xs : List Keyed) → length unchanged ≤ length xs → length (if passes then x ∷ unchanged else unchanged) ≤ suc (length xs)
unchanged-few true x unchanged xs rest = omega arith
unchanged-few false x unchanged xs rest = omega arith

fewer-by : (p : Keyed → Bool) (xs : List Keyed) → length (filter p xs) ≤ length xs
fewer-by p [] = omega arith
fewer-by p (x ∷ xs) = unchanged-few (p x) x (filter p xs) xs (fewer-by p xs)

pub filled-few : (from until : Key) (filled : Filled) (xs : List Keyed) → All IsNarrow xs
    → (filled_with_areas filled (areas_between from until xs)).bit ≤ filled.bit + 11895 * length xs
filled-few from until filled xs narrow =
    let few = fewer-by (λ area. is_within from area.0) xs in
    let fewer = fewer-by (λ area. is_before area.0 until) (areas_from from xs) in
    let low = with_areas-few (areas_between from until xs) filled
    (All-filter (λ area. is_before area.0 until) IsNarrow (areas_from from xs) (All-filter (λ area. is_within from area.0) IsNarrow xs narrow)) in
    omega arith
