-- Changes and rows in three parts: those in front, in the middle and after.
use Rattle.std.proofs.Common.{◌≡◌, ◌∙◌, ap, ℕ, ◌+◌, ◌-◌, ◌<◌, ◌≤◌, Bool, cond, List, [], ◌∷◌, ◌++◌, drop, get_or, length, map, take, refl, sym, subst, arith}
use Rattle.std.specs.Prelude.{All, IsTrue, Some, slice_get, slice_range, ◌≢◌}
use Rattle.std.specs.List.{AllWithin}
use Rattle.std.proofs.lemmas.Bool.{ltb-false, ltb-true}
use Rattle.std.proofs.lemmas.List.{drop-drop, get_or_append_left, get_or-drop, get_or-take, get_or_default, length-append, length-drop, length-take, take-append-drop}
use Rattle.std.proofs.lemmas.List.Elements.{All-head, All-tail}
use Rattle.std.proofs.lemmas.List.Folds.{drop_split}
use Rattle.std.proofs.lemmas.Option.{get_or_from_slice_get}
use Rattle.hc_records.proofs.lemmas.Lists.{All-append_right, AllPairs-append_right}
use Rattle.hc_places.specs.inner.Overwritten.{AreBelow, rows_overwritten, row_with}
use Rattle.hc_places.specs.Swap.{ChangedRow, ChangesAscend, KeepRows, keeps_row, merged, new_row, with_changed}
use Rattle.hc_places.specs.Table.{VariableRow, RowsAscend}
use Rattle.hc_places.proofs.Merged.{front, skip}
use Rattle.hc_places.proofs.Overwritten.{first-made, stays-still, overwritten-ascends, overwritten-merged}
use Rattle.hc_places.proofs.Swapped.{merged-rows-ascend}
use Rattle.hc_places.proofs.Walked.{AreAbove, Ascends, ascends-above, ascends-rest, by-order}

-- a list in three parts
parts : {X : Type 0} (xs : List X) (i j : ℕ) → i ≤ j → xs ≡ take i xs ++ (slice_range xs i j ++ drop j xs)
parts xs i j order = sym (take-append-drop i xs) ∙ ap (λ rest. take i xs ++ rest) (drop_split xs i j order)

of-taken : {X : Type 0} (P : X → Type 0) (xs : List X) (i : ℕ) → AllWithin P xs 0 i → All P (take i xs)
of-taken P xs i holds k d inside = grind (arith, length-take, get_or-take)

of-dropped : {X : Type 0} (P : X → Type 0) (xs : List X) (j : ℕ) → AllWithin P xs j (length xs) → All P (drop j xs)
of-dropped P xs j holds k d inside = grind (arith, length-drop, get_or-drop)

first-ascend : {X : Type 0} (firsts others : List (ℕ × X)) → Ascends (firsts ++ others) → Ascends firsts
first-ascend {X} firsts others ascends i j d lower within =
    grind (arith, length-append, get_or_append_left)

pub part-ascends : {X : Type 0} (xs : List (ℕ × X)) (i j : ℕ) → i ≤ j → Ascends xs → Ascends (slice_range xs i j)
part-ascends {X} xs i j order ascends =
    first-ascend (slice_range xs i j) (drop j xs)
    (AllPairs-append_right (λ (a b : ℕ × X). a.0 < b.0) (take i xs) (slice_range xs i j ++ drop j xs) (subst Ascends (parts xs i j order) ascends))

pub part-few : {X : Type 0} (all front inner after_it : List X) → all ≡ front ++ (inner ++ after_it) → length inner ≤ length all
part-few all front inner after_it is = grind (arith, length-append, front)

-- changes in front and after are as well made first

merged-append : (firsts others : List ChangedRow) (rows : List VariableRow) → merged (firsts ++ others) rows ≡ merged firsts (merged others rows)
merged-append [] others rows = refl
merged-append (changed ∷ firsts) others rows = ap (with_changed changed) (merged-append firsts others rows)

merged-turned : (firsts others : List ChangedRow) (rows : List VariableRow) → ChangesAscend (firsts ++ others) → RowsAscend rows → merged firsts (merged others rows) ≡ merged others (merged firsts rows)
merged-turned [] others rows changes ascends = refl
merged-turned (changed ∷ firsts) others rows changes ascends =
    let above = All-append_right (λ (c : ChangedRow). changed.0 < c.0) firsts others (ascends-above changed (firsts ++ others) changes) in
    ap (with_changed changed) (merged-turned firsts others rows (ascends-rest changed (firsts ++ others) changes) ascends)
    ∙ sym (first-made changed others (merged firsts rows) above (merged-rows-ascend firsts rows ascends))

keep-overwritten : (changed : List ChangedRow) (rows : List VariableRow) (others : List ChangedRow) → KeepRows rows others → KeepRows (rows_overwritten changed rows) others
keep-overwritten [] rows others keep = keep
keep-overwritten (c ∷ changed) rows others keep = keep-overwritten changed (map (row_with c) rows) others (stays-still c rows others keep)

pub all-overwritten-ascend : (changed : List ChangedRow) (rows : List VariableRow) → RowsAscend rows → RowsAscend (rows_overwritten changed rows)
all-overwritten-ascend [] rows ascends = ascends
all-overwritten-ascend (c ∷ changed) rows ascends = all-overwritten-ascend changed (map (row_with c) rows) (overwritten-ascends c rows ascends)

in-parts : (firsts middle lasts : List ChangedRow) (rows : List VariableRow) → ChangesAscend (firsts ++ (middle ++ lasts)) → RowsAscend rows → KeepRows rows firsts → KeepRows rows lasts
    → merged middle (rows_overwritten lasts (rows_overwritten firsts rows)) ≡ merged (firsts ++ (middle ++ lasts)) rows
in-parts firsts middle lasts rows changes ascends keep keep-last =
    let others = AllPairs-append_right (λ (a b : ChangedRow). a.0 < b.0) firsts (middle ++ lasts) changes in
    let last = AllPairs-append_right (λ (a b : ChangedRow). a.0 < b.0) middle lasts others in
    let next = rows_overwritten firsts rows in
    let once = overwritten-merged firsts rows (first-ascend firsts (middle ++ lasts) changes) ascends keep in
    let twice = overwritten-merged lasts next last (all-overwritten-ascend firsts rows ascends) (keep-overwritten firsts rows lasts keep-last) in
    ap (merged middle) twice ∙ sym (merged-append middle lasts next) ∙ ap (merged (middle ++ lasts)) once
    ∙ sym (merged-turned firsts (middle ++ lasts) rows changes ascends) ∙ sym (merged-append firsts (middle ++ lasts) rows)

-- so the middle ones are left to be merged
pub middle-left : (changed : List ChangedRow) (rows : List VariableRow) (first end : ℕ) → first ≤ end → ChangesAscend changed → RowsAscend rows
    → AllWithin (λ (c : ChangedRow). IsTrue (keeps_row rows c)) changed 0 first → AllWithin (λ (c : ChangedRow). IsTrue (keeps_row rows c)) changed end (length changed)
    → merged (slice_range changed first end) (rows_overwritten (drop end changed) (rows_overwritten (take first changed) rows)) ≡ merged changed rows
middle-left changed rows first end order changes ascends front-unchanged after_it-unchanged =
    let whole = parts changed first end order in
    in-parts (take first changed) (slice_range changed first end) (drop end changed) rows (subst ChangesAscend whole changes) ascends
    (of-taken (λ (c : ChangedRow). IsTrue (keeps_row rows c)) changed first front-unchanged) (of-dropped (λ (c : ChangedRow). IsTrue (keeps_row rows c)) changed end after_it-unchanged)
    ∙ ap (λ (l : List ChangedRow). merged l rows) (sym whole)

-- rows below all changed variables stay in front, and rows above them after

front-stays : (lower rest : List VariableRow) (changed : List ChangedRow) → All (λ (row : VariableRow). AreAbove row.0 changed) lower → merged changed (lower ++ rest) ≡ lower ++ merged changed rest
front-stays [] rest changed below = refl
front-stays (row ∷ lower) rest changed below =
    skip row (lower ++ rest) changed (All-head (λ (r : VariableRow). AreAbove r.0 changed) row lower below)
    ∙ ap (λ (l : List VariableRow). row ∷ l) (front-stays lower rest changed (All-tail (λ (r : VariableRow). AreAbove r.0 changed) row lower below))

after_it-by : (below same : Bool) (changed : ChangedRow) (row : VariableRow) (rows higher made : List VariableRow)
    → cond below (row ∷ (made ++ higher)) (new_row changed ++ cond same (rows ++ higher) (row ∷ (rows ++ higher))) ≡ cond below (row ∷ made) (new_row changed ++ cond same rows (row ∷ rows)) ++ higher
after_it-by below same changed row rows higher made = grind arith

with-after_it : (changed : ChangedRow) (rows higher : List VariableRow) → AreAbove changed.0 higher → with_changed changed (rows ++ higher) ≡ with_changed changed rows ++ higher
with-after_it changed [] higher above = front changed higher above
with-after_it changed (row ∷ rows) higher above =
    grind (arith, after_it-by, with-after_it changed rows higher above)

after_it-stays : (changed : List ChangedRow) (rows higher : List VariableRow) → All (λ (c : ChangedRow). AreAbove c.0 higher) changed → merged changed (rows ++ higher) ≡ merged changed rows ++ higher
after_it-stays [] rows higher above = refl
after_it-stays (c ∷ changed) rows higher above =
    ap (with_changed c) (after_it-stays changed rows higher (All-tail (λ (a : ChangedRow). AreAbove a.0 higher) c changed above))
    ∙ with-after_it c (merged changed rows) higher (All-head (λ (a : ChangedRow). AreAbove a.0 higher) c changed above)

-- the first of some changes is the lowest, and the last the highest

first-lowest : (changed : List ChangedRow) (first : ChangedRow) → ChangesAscend changed → slice_get changed 0 ≡ Some first → All (λ (c : ChangedRow). first.0 ≤ c.0) changed
first-lowest changed first changes is k d inside =
    grind (arith, get_or_from_slice_get, by-order, get_or)

last-highest : (changed : List ChangedRow) (last : ChangedRow) → ChangesAscend changed → slice_get changed (length changed - 1) ≡ Some last → All (λ (c : ChangedRow). c.0 ≤ last.0) changed
last-highest changed last changes is k d inside =
    grind (arith, get_or_from_slice_get, by-order, get_or)

-- so rows are parted by them
pub rows-parted : (changed : List ChangedRow) (rows : List VariableRow) (low count : ℕ) (first last : ChangedRow) → ChangesAscend changed → slice_get changed 0 ≡ Some first → slice_get changed (length changed - 1) ≡ Some last
    → AreBelow rows first.0 low → AllWithin (λ (row : VariableRow). last.0 < row.0) (drop low rows) count (length (drop low rows))
    → merged changed rows ≡ take low rows ++ (merged changed (slice_range rows low (low + count)) ++ drop (low + count) rows)
rows-parted changed rows low count first last changes front-is last-is below above =
    let high = low + count in
    let lowest = first-lowest changed first changes front-is in
    let highest = last-highest changed last changes last-is in
    let lower : All (λ (row : VariableRow). AreAbove row.0 changed) (take low rows) =
    of-taken (λ (row : VariableRow). AreAbove row.0 changed) rows low
    (λ k d up inside j e within.
    let less = ltb-true (get_or rows k d).0 first.0 (below.0 k d up inside) in
    let most = lowest j e within in
    omega (arith, less, most)) in
    let rest : All (λ (row : VariableRow). last.0 < row.0) (drop high rows) =
    subst (λ (l : List VariableRow). All (λ (row : VariableRow). last.0 < row.0) l) (drop-drop count low rows) (of-dropped (λ (row : VariableRow). last.0 < row.0) (drop low rows) count above) in
    let higher : All (λ (c : ChangedRow). AreAbove c.0 (drop high rows)) changed =
    λ k d inside j e within.
    let least = highest k d inside in
    let more = rest j e within in
    omega (arith, least, more) in
    ap (merged changed) (parts rows low high (omega arith))
    ∙ front-stays (take low rows) (slice_range rows low high ++ drop high rows) changed lower
    ∙ ap (λ (l : List VariableRow). take low rows ++ l) (after_it-stays changed (slice_range rows low high) (drop high rows) higher)

-- rows after those of no higher number have a higher one

pub above-own : (rows : List VariableRow) (variable at : ℕ) (row : VariableRow) → RowsAscend rows → row ≡ get_or rows at row → at < length rows → row.0 ≡ variable → AllWithin (λ (r : VariableRow). variable < r.0) rows (at + 1) (length rows)
above-own rows variable at row ascends is within own k d low high =
    let here = ap (λ (r : VariableRow). r.0) (is ∙ get_or_default rows at row d within) in
    let up = ascends at k d (omega (arith, low)) high in
    omega (arith, here, up, own)

pub above-other : (rows : List VariableRow) (variable at : ℕ) (row : VariableRow) → RowsAscend rows → AreBelow rows variable at → row ≡ get_or rows at row → at < length rows → row.0 ≢ variable
    → AllWithin (λ (r : VariableRow). variable < r.0) rows at (length rows)
above-other rows variable at row ascends below is within other k d low high =
    grind (arith, get_or_default, ltb-false, get_or, by-order)
