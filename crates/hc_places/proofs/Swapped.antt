-- The places of a table's variables after some of them are changed. The places give the table.
use Rattle.std.proofs.Common.{◌≡◌, ◌∙◌, ap, ℕ, ◌<◌, Bool, true, false, cond, List, [], ◌∷◌, ◌++◌, refl, sym, arith}
use Rattle.std.specs.Prelude.{Option, Some, None, find, option_map, unwrap_or, ◌==◌}
use Rattle.std.proofs.lemmas.Bool.{cond-true, eqb-true}
use Rattle.std.proofs.lemmas.Bool.Decides.{nat_tests}
use Rattle.std.proofs.lemmas.List.Elements.{All-cons, All-head, All-nil, All-tail}
use Rattle.std.proofs.lemmas.List.Kept.{AllPairs-cons}
use Rattle.std.proofs.lemmas.Option.{same_Some}
use Rattle.hc_records.specs.Image.{VariablePlace}
use Rattle.hc_places.specs.Table.{VariableRow, RowsAscend, Table, TaskTable}
use Rattle.hc_places.specs.Swap.{ChangedRow, merged, new_row, with_changed}
use Rattle.hc_places.proofs.Changed.{place-here, place-none, place_of}
use Rattle.hc_places.proofs.Merged.{front, in-place, of-option}
use Rattle.hc_places.proofs.Walked.{AreAbove, above-cons, ascends-above, ascends-rest, by-order, of-heads, piece-above, piece-ascends}

-- rows with one variable changed stay above a lower number, and in order

fronted-above : (low : ℕ) (changed : ChangedRow) (rows : List VariableRow) → low < changed.0 → AreAbove changed.0 rows → AreAbove low rows → AreAbove low (with_changed changed rows)
fronted-above low changed rows less above all =
    rw (front changed rows above) (piece-above low changed.0 (new_row changed) rows (of-option changed.0 changed.1) less all)

with-above : (low : ℕ) (changed : ChangedRow) (rows : List VariableRow) → low < changed.0 → RowsAscend rows → AreAbove low rows → AreAbove low (with_changed changed rows)
with-above low changed [] less ascends all =
    fronted-above low changed [] less (All-nil (λ (r : VariableRow). changed.0 < r.0)) all
with-above low changed (row ∷ rows) less ascends all =
    let here = All-head (λ (r : VariableRow). low < r.0) row rows all in
    let others = All-tail (λ (r : VariableRow). low < r.0) row rows all in
    by-order row.0 changed.0
    (λ below lower. rw (cond-true _ _ _ below)
    (All-cons (λ (r : VariableRow). low < r.0) row (with_changed changed rows) here (with-above low changed rows less (ascends-rest row rows ascends) others)))
    (λ not_less above higher. fronted-above low changed (row ∷ rows) less (above-cons changed.0 row rows higher (ascends-above row rows ascends)) all)
    (λ not_less neither same. rw (in-place changed row rows same)
    (piece-above low changed.0 (new_row changed) rows (of-option changed.0 changed.1) less others))

fronted-ascends : (changed : ChangedRow) (rows : List VariableRow) → AreAbove changed.0 rows → RowsAscend rows → RowsAscend (with_changed changed rows)
fronted-ascends changed rows above ascends =
    rw (front changed rows above) (piece-ascends changed.0 (new_row changed) rows (of-option changed.0 changed.1) above ascends)

pub with-ascends : (changed : ChangedRow) (rows : List VariableRow) → RowsAscend rows → RowsAscend (with_changed changed rows)
with-ascends changed [] ascends = fronted-ascends changed [] (All-nil (λ (r : VariableRow). changed.0 < r.0)) ascends
with-ascends changed (row ∷ rows) ascends =
    let others-above = ascends-above row rows ascends in
    let others-ascend = ascends-rest row rows ascends in
    by-order row.0 changed.0
    (λ below lower. rw (cond-true _ _ _ below)
    (AllPairs-cons (λ (a b : VariableRow). a.0 < b.0) row (with_changed changed rows) (with-above row.0 changed rows lower others-ascend others-above) (with-ascends changed rows others-ascend)))
    (λ not_less above higher. fronted-ascends changed (row ∷ rows) (above-cons changed.0 row rows higher others-above) ascends)
    (λ not_less neither same. rw (in-place changed row rows same)
    (piece-ascends changed.0 (new_row changed) rows (of-option changed.0 changed.1) (rw (← same) others-above) others-ascend))

pub merged-rows-ascend : (others : List ChangedRow) (rows : List VariableRow) → RowsAscend rows → RowsAscend (merged others rows)
merged-rows-ascend [] rows ascends = ascends
merged-rows-ascend (changed ∷ others) rows ascends = with-ascends changed (merged others rows) (merged-rows-ascend others rows ascends)

-- the place of a variable after a row

after_it-row : (here : Bool) (row : VariableRow) (found : Option VariableRow) → option_map (λ (r : VariableRow). r.1) (cond here (Some row) found) ≡ cond here (Some row.1) (option_map (λ (r : VariableRow). r.1) found)
after_it-row here row found = grind arith

place-of-cons : (row : VariableRow) (rows : List VariableRow) (variable : ℕ) → place_of (row ∷ rows) variable ≡ cond (row.0 == variable) (Some row.1) (place_of rows variable)
place-of-cons row rows variable = after_it-row (row.0 == variable) row (find (λ (r : VariableRow). r.0 == variable) rows)

gone-by : (here : Bool) (found : Option VariablePlace) → (here ≡ true → found ≡ None) → found ≡ cond here None found
gone-by here found none = grind arith

-- after the new row of a changed variable that has none there
after_it-new : (number : ℕ) (place : Option VariablePlace) (rows : List VariableRow) (variable : ℕ) → AreAbove number rows
    → place_of (new_row (number, place) ++ rows) variable ≡ cond (number == variable) place (place_of rows variable)
after_it-new number None rows variable above =
    gone-by (number == variable) (place_of rows variable) (λ is. ap (place_of rows) (sym (eqb-true number variable is)) ∙ place-none rows number above)
after_it-new number (Some place) rows variable above = place-of-cons (number, place) rows variable

exchanged : {A : Type 0} (a b : Bool) (x y z : A) → (a ≡ true → b ≡ false) → cond a x (cond b y z) ≡ cond b y (cond a x z)
exchanged a b x y z apart = grind arith

covered : {A : Type 0} (a b : Bool) (x y z : A) → (b ≡ true → a ≡ true) → cond a x z ≡ cond a x (cond b y z)
covered a b x y z same = grind arith

apart-from : (a b variable : ℕ) → a < b → (a == variable) ≡ true → (b == variable) ≡ false
apart-from a b variable less is = grind (arith, nat_tests)

-- a changed variable has its new place or none, any other its old one
pub place-with : (changed : ChangedRow) (rows : List VariableRow) (variable : ℕ) → RowsAscend rows
    → place_of (with_changed changed rows) variable ≡ cond (changed.0 == variable) changed.1 (place_of rows variable)
place-with changed [] variable ascends = grind arith
place-with changed (row ∷ rows) variable ascends =
    let others-above = ascends-above row rows ascends in
    by-order row.0 changed.0
    (λ below lower.
    ap (λ (l : List VariableRow). place_of l variable) (cond-true _ _ _ below)
    ∙ place-of-cons row (with_changed changed rows) variable
    ∙ ap (λ (found : Option VariablePlace). cond (row.0 == variable) (Some row.1) found) (place-with changed rows variable (ascends-rest row rows ascends))
    ∙ exchanged (row.0 == variable) (changed.0 == variable) (Some row.1) changed.1 (place_of rows variable) (apart-from row.0 changed.0 variable lower)
    ∙ ap (λ (found : Option VariablePlace). cond (changed.0 == variable) changed.1 found) (sym (place-of-cons row rows variable)))
    (λ not_less above higher.
    let all = above-cons changed.0 row rows higher others-above in
    ap (λ (l : List VariableRow). place_of l variable) (front changed (row ∷ rows) all) ∙ after_it-new changed.0 changed.1 (row ∷ rows) variable all)
    (λ not_less neither same.
    ap (λ (l : List VariableRow). place_of l variable) (in-place changed row rows same)
    ∙ after_it-new changed.0 changed.1 rows variable (rw (← same) others-above)
    ∙ covered (changed.0 == variable) (row.0 == variable) changed.1 (Some row.1) (place_of rows variable) (λ is. rw (← same) is)
    ∙ ap (λ (found : Option VariablePlace). cond (changed.0 == variable) changed.1 found) (sym (place-of-cons row rows variable)))

said-first : (here : Bool) (changed : ChangedRow) (found : Option ChangedRow) (old : Option VariablePlace)
    → cond here changed.1 (unwrap_or (option_map (λ (c : ChangedRow). c.1) found) old) ≡ unwrap_or (option_map (λ (c : ChangedRow). c.1) (cond here (Some changed) found)) old
said-first here changed found old = grind arith

-- each changed variable has its new place or none, any other its old one
pub place-merged : (others : List ChangedRow) (rows : List VariableRow) (variable : ℕ) → RowsAscend rows
    → place_of (merged others rows) variable ≡ unwrap_or (option_map (λ (c : ChangedRow). c.1) (find (λ (c : ChangedRow). c.0 == variable) others)) (place_of rows variable)
place-merged [] rows variable ascends = refl
place-merged (changed ∷ others) rows variable ascends =
    place-with changed (merged others rows) variable (merged-rows-ascend others rows ascends)
    ∙ ap (λ (found : Option VariablePlace). cond (changed.0 == variable) changed.1 found) (place-merged others rows variable ascends)
    ∙ said-first (changed.0 == variable) changed (find (λ (c : ChangedRow). c.0 == variable) others) (place_of rows variable)

-- rows in order are given by the places that they give

abbrev pub SamePlaces : List VariableRow → List VariableRow → Type 0
SamePlaces xs ys = (variable : ℕ) → place_of xs variable ≡ place_of ys variable

abbrev pub AnswerGiven : List VariableRow → List VariableRow → Type 0
AnswerGiven xs ys = RowsAscend xs → RowsAscend ys → SamePlaces xs ys → xs ≡ ys

row-is_placed : {P : Type 0} (row : VariableRow) (rows others : List VariableRow) → AreAbove row.0 others → place_of (row ∷ rows) row.0 ≡ place_of others row.0 → P
row-is_placed row rows others above same = grind (arith, place-here, place-none)

-- what two answers after one row are, where the row hides them and where it doesn't
rest-by : (test : Bool) (x : VariablePlace) (found other : Option VariablePlace) → (test ≡ true → found ≡ other) → cond test (Some x) found ≡ cond test (Some x) other → found ≡ other
rest-by test x found other here all = grind arith

rest-places : (x : VariableRow) (xs : List VariableRow) (y : VariableRow) (ys : List VariableRow) → x ≡ y → AreAbove x.0 xs → AreAbove x.0 ys → SamePlaces (x ∷ xs) (y ∷ ys) → SamePlaces xs ys
rest-places x xs y ys heads first second same variable =
    grind (arith, rest-by, place_of, eqb-true, place-none, place-of-cons)

row-same : (x y : VariableRow) → x.0 ≡ y.0 → x.1 ≡ y.1 → x ≡ y
row-same x y number place = rw (number, place) refl

answer_given-both : (x : VariableRow) (xs : List VariableRow) (y : VariableRow) (ys : List VariableRow) → AnswerGiven xs (y ∷ ys) → AnswerGiven (x ∷ xs) ys → AnswerGiven xs ys → AnswerGiven (x ∷ xs) (y ∷ ys)
answer_given-both x xs y ys first second both up down same =
    let xs-above = ascends-above x xs up in
    let ys-above = ascends-above y ys down in
    by-order x.0 y.0
    (λ below less. row-is_placed x xs (y ∷ ys) (above-cons x.0 y ys less ys-above) (same x.0))
    (λ not_less above less. row-is_placed y ys (x ∷ xs) (above-cons y.0 x xs less xs-above) (sym (same y.0)))
    (λ not_less neither number.
    let place : x.1 ≡ y.1 = same_Some x.1 y.1 (sym (place-here x xs x.0 refl) ∙ same x.0 ∙ place-here y ys x.0 (sym number)) in
    let heads = row-same x y number place in
    let rest = both (ascends-rest x xs up) (ascends-rest y ys down) (rest-places x xs y ys heads xs-above (rw number ys-above) same) in
    ap (λ (row : VariableRow). row ∷ xs) heads ∙ ap (λ (l : List VariableRow). y ∷ l) rest)

pub rows-answer_given : (xs ys : List VariableRow) → AnswerGiven xs ys
rows-answer_given xs ys =
    of-heads AnswerGiven (λ up down same. refl)
    (λ x xs rest up down same. row-is_placed x xs [] (All-nil (λ (r : VariableRow). x.0 < r.0)) (same x.0))
    (λ y ys rest up down same. row-is_placed y ys [] (All-nil (λ (r : VariableRow). y.0 < r.0)) (sym (same y.0)))
    answer_given-both ys xs

abbrev table_with : List TaskTable → List VariableRow → Table
table_with tasks rows = record { tasks = tasks; variables = rows }

pub tables-answer_given : (a b : Table) → RowsAscend a.variables → RowsAscend b.variables → a.tasks ≡ b.tasks → SamePlaces a.variables b.variables → a ≡ b
tables-answer_given a b up down tasks same =
    ap (λ (l : List TaskTable). table_with l a.variables) tasks ∙ ap (table_with b.tasks) (rows-answer_given a.variables b.variables up down same)
