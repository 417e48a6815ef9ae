-- Changes and rows that are walked at once are merged.
use Rattle.std.proofs.Common.{◌≡◌, ◌∙◌, ap, ℕ, ◌<◌, false, List, [], ◌∷◌, ◌++◌, refl, sym, arith, append-nil}
use Rattle.std.specs.Prelude.{Option, nat_lt, ◌==◌}
use Rattle.std.proofs.lemmas.Bool.{cond-true, cond-false, eq-eqb, lt-ltb}
use Rattle.std.proofs.lemmas.Bool.Decides.{nat_tests}
use Rattle.std.proofs.lemmas.List.Elements.{All-head, All-nil, All-tail}
use Rattle.hc_records.specs.Image.{VariablePlace}
use Rattle.hc_records.proofs.lemmas.Choices.{is_other}
use Rattle.hc_places.specs.Table.{VariableRow, RowsAscend}
use Rattle.hc_places.specs.Swap.{ChangedRow, ChangesAscend, merged, new_row, with_changed}
use Rattle.hc_places.specs.inner.Walk.{merges, walked}
use Rattle.hc_places.proofs.Walked.{AreAbove, AreOf, StaysInPart, above-cons, ascends-above, ascends-rest, by-order, of-heads, walked-above, walked-both, walked-first, walked-second}

-- what a walk of rows, or of changes and rows, adds

pub of-option : (number : ℕ) (place : Option VariablePlace) → AreOf number (new_row (number, place))
of-option number place = grind arith

merges-keep : StaysInPart merges
merges-keep = grind arith

-- changes above a row leave it in front
pub skip : (row : VariableRow) (rows : List VariableRow) (others : List ChangedRow) → AreAbove row.0 others → merged others (row ∷ rows) ≡ row ∷ merged others rows
skip row rows [] above = refl
skip row rows (changed ∷ others) above =
    grind (arith, All-tail, cond-true, lt-ltb, All-head, skip row rows others (All-tail (λ (c : ChangedRow). row.0 < c.0) changed others above))

lower-not-below : (a b : ℕ) → a < b → nat_lt b a ≡ false
lower-not-below a b less = grind (arith, nat_tests)

-- a changed variable below all rows has its new row in front
pub front : (changed : ChangedRow) (rows : List VariableRow) → AreAbove changed.0 rows → with_changed changed rows ≡ new_row changed ++ rows
front changed [] above = sym (append-nil (new_row changed))
front changed (row ∷ rows) above = grind (arith, All-head, cond-false, lower-not-below, is_other)

same-not-below : (a b : ℕ) → a ≡ b → nat_lt a b ≡ false
same-not-below a b same = grind (arith, nat_tests)

-- a changed variable has its new row in place of its old one
pub in-place : (changed : ChangedRow) (row : VariableRow) (rows : List VariableRow) → row.0 ≡ changed.0 → with_changed changed (row ∷ rows) ≡ new_row changed ++ rows
in-place changed row rows same =
    cond-false _ _ _ (same-not-below row.0 changed.0 same) ∙ ap (λ (l : List VariableRow). new_row changed ++ l) (cond-true _ _ _ (eq-eqb row.0 changed.0 same))

abbrev pub Merges : List ChangedRow → List VariableRow → Type 0
Merges others rows = ChangesAscend others → RowsAscend rows → walked merges rows others ≡ merged others rows

merged-above : (low : ℕ) (others : List ChangedRow) (rows : List VariableRow) → walked merges rows others ≡ merged others rows → AreAbove low others → AreAbove low rows → AreAbove low (merged others rows)
merged-above low others rows is first second = rw (← is) (walked-above merges merges-keep low rows others first second)

merges-both : (changed : ChangedRow) (others : List ChangedRow) (row : VariableRow) (rows : List VariableRow) → Merges others (row ∷ rows) → Merges (changed ∷ others) rows → Merges others rows
    → Merges (changed ∷ others) (row ∷ rows)
merges-both changed others row rows first second both changes old =
    let others-above = ascends-above changed others changes in
    let rows-above = ascends-above row rows old in
    by-order changed.0 row.0
    (λ below less.
    let is = first (ascends-rest changed others changes) old in
    walked-first merges changed others row rows below
    ∙ ap (λ (l : List VariableRow). new_row changed ++ l) is
    ∙ sym (front changed (merged others (row ∷ rows)) (merged-above changed.0 others (row ∷ rows) is others-above (above-cons changed.0 row rows less rows-above))))
    (λ not_less above less.
    walked-second merges changed others row rows not_less above
    ∙ ap (λ (l : List VariableRow). row ∷ l) (second changes (ascends-rest row rows old))
    ∙ sym (skip row rows (changed ∷ others) (above-cons row.0 changed others less others-above)))
    (λ not_less neither same.
    walked-both merges changed others row rows not_less neither
    ∙ ap (λ (l : List VariableRow). new_row changed ++ l) (both (ascends-rest changed others changes) (ascends-rest row rows old))
    ∙ sym (ap (with_changed changed) (skip row rows others (rw (← same) others-above)) ∙ in-place changed row (merged others rows) (sym same)))

pub walked-merged : (others : List ChangedRow) (rows : List VariableRow) → Merges others rows
walked-merged others rows =
    of-heads Merges (λ changes old. refl)
    (λ changed others rest changes old.
    let is = rest (ascends-rest changed others changes) old in
    ap (λ (l : List VariableRow). new_row changed ++ l) is
    ∙ sym (front changed (merged others []) (merged-above changed.0 others [] is (ascends-above changed others changes) (All-nil (λ (r : VariableRow). changed.0 < r.0)))))
    (λ row rows rest changes old. ap (λ (l : List VariableRow). row ∷ l) (rest changes (ascends-rest row rows old)))
    merges-both rows others
