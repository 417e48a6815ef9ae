-- Rows that are overwritten in place are merged, if each changed variable keeps its row.
use Rattle.std.proofs.Common.{◌≡◌, ◌∙◌, ap, ℕ, ◌+◌, ◌<◌, Bool, true, false, cond, List, [], ◌∷◌, drop, drop-cons, get_or, length, map, refl, sym, subst, arith}
use Rattle.std.specs.Prelude.{IsTrue, Option, Some, None, find, is_some, option_map, unwrap_or, ◌==◌, ◌&&◌}
use Rattle.std.proofs.lemmas.Bool.{cond-true, cond-false, eq-eqb, eqb-true}
use Rattle.std.proofs.lemmas.List.Elements.{All-head, All-tail, All-weaker}
use Rattle.hc_records.proofs.lemmas.Lists.{AllPairs-map, AllPairs-weaker}
use Rattle.hc_cuts.proofs.lemmas.Found.{find-none}
use Rattle.hc_records.specs.Image.{VariablePlace}
use Rattle.hc_records.proofs.lemmas.Choices.{lower-other}
use Rattle.hc_places.specs.Swap.{ChangedRow, ChangesAscend, KeepRows, keeps_row, merged, with_changed}
use Rattle.hc_places.specs.inner.Overwritten.{rows_overwritten, row_with}
use Rattle.hc_places.specs.Table.{VariableRow, RowsAscend}
use Rattle.hc_places.proofs.Changed.{place_of, above-apart}
use Rattle.hc_places.proofs.Merged.{in-place}
use Rattle.hc_places.proofs.Swapped.{merged-rows-ascend, place-merged, place-with, rows-answer_given, with-ascends}
use Rattle.hc_places.proofs.Walked.{AreAbove, ascends-above, ascends-rest, by-order}

-- a row that is overwritten keeps its number

own-number : (own : Bool) (row : VariableRow) (place : VariablePlace) → (cond own (row.0, place) row).0 ≡ row.0
own-number own row place = grind arith

pub same-number : (changed : ChangedRow) (row : VariableRow) → (row_with changed row).0 ≡ row.0
same-number changed row = own-number (row.0 == changed.0) row (unwrap_or changed.1 row.1)

pub overwritten-ascends : (changed : ChangedRow) (rows : List VariableRow) → RowsAscend rows → RowsAscend (map (row_with changed) rows)
overwritten-ascends changed rows ascends =
    AllPairs-map (λ a b. a.0 < b.0) (row_with changed) rows
    (AllPairs-weaker (λ (a b : VariableRow). a.0 < b.0) (λ (a b : VariableRow). (row_with changed a).0 < (row_with changed b).0)
    (λ a b less. let first = same-number changed a in let second = same-number changed b in omega (arith, less, first, second)) rows ascends)

found-by : (here : Bool) (one two : VariableRow) (ones twos : Option VariableRow) → is_some ones ≡ is_some twos → is_some (cond here (Some one) ones) ≡ is_some (cond here (Some two) twos)
found-by here one two ones twos same = grind arith

-- so it is found as before
found-still : (changed : ChangedRow) (rows : List VariableRow) (variable : ℕ)
    → is_some (find (λ (row : VariableRow). row.0 == variable) (map (row_with changed) rows)) ≡ is_some (find (λ (row : VariableRow). row.0 == variable) rows)
found-still changed [] variable = refl
found-still changed (row ∷ rows) variable =
    grind (arith, same-number, found-by, found-still changed rows variable)

pub stays-still : (changed : ChangedRow) (rows : List VariableRow) (others : List ChangedRow) → KeepRows rows others → KeepRows (map (row_with changed) rows) others
stays-still changed rows others keep =
    All-weaker (λ (c : ChangedRow). IsTrue (keeps_row rows c)) (λ (c : ChangedRow). IsTrue (keeps_row (map (row_with changed) rows) c))
    (λ c unchanged. ap (λ (found : Bool). found && is_some c.1) (found-still changed rows c.0) ∙ unchanged) others keep

-- rows of other numbers stay

pub other-row : (changed : ChangedRow) (row : VariableRow) → (row.0 == changed.0) ≡ false → row_with changed row ≡ row
other-row changed row other = cond-false _ _ _ other

pub above-stay : (changed : ChangedRow) (rows : List VariableRow) → AreAbove changed.0 rows → rows ≡ map (row_with changed) rows
above-stay changed [] above = refl
above-stay changed (row ∷ rows) above =
    grind (arith, other-row, above-apart, All-head, All-tail, above-stay changed rows (All-tail (λ (r : VariableRow). changed.0 < r.0) row rows above))

-- a variable that keeps its row has its new place there

not-found : (variable : ℕ) (rows : List VariableRow) → AreAbove variable rows → find (λ (row : VariableRow). row.0 == variable) rows ≡ None
not-found variable rows above = grind (arith, find-none, All-weaker, above-apart)

found-after_it : (changed : ChangedRow) (row : VariableRow) (rows : List VariableRow) → (row.0 == changed.0) ≡ false → IsTrue (keeps_row (row ∷ rows) changed) → IsTrue (keeps_row rows changed)
found-after_it changed row rows other stays =
    sym (ap (λ (found : Option VariableRow). is_some found && is_some changed.1) (cond-false (row.0 == changed.0) (Some row) (find (λ (r : VariableRow). r.0 == changed.0) rows) other)) ∙ stays

own-row : (number : ℕ) (place : Option VariablePlace) (row : VariableRow) (rows : List VariableRow) → row.0 ≡ number → (is_some (Some row) && is_some place) ≡ true → AreAbove number rows
    → map (row_with (number, place)) (row ∷ rows) ≡ with_changed (number, place) (row ∷ rows)
own-row number None row rows same stays above = cc
own-row number (Some place) row rows same stays above =
    grind (arith, cond-true, eq-eqb, above-stay, in-place)

row-overwritten : (changed : ChangedRow) (rows : List VariableRow) → RowsAscend rows → IsTrue (keeps_row rows changed) → map (row_with changed) rows ≡ with_changed changed rows
row-overwritten changed [] ascends stays = cc
row-overwritten changed (row ∷ rows) ascends stays =
    let above = ascends-above row rows ascends in
    by-order row.0 changed.0
    (λ below less.
    let other = lower-other row.0 changed.0 less in
    ap (λ (r : VariableRow). r ∷ map (row_with changed) rows) (other-row changed row other)
    ∙ ap (λ (l : List VariableRow). row ∷ l) (row-overwritten changed rows (ascends-rest row rows ascends) (found-after_it changed row rows other stays))
    ∙ sym (cond-true _ _ _ below))
    (λ not_less higher less.
    let after_it = found-after_it changed row rows (above-apart row.0 changed.0 less) stays in
    let none = not-found changed.0 rows (All-weaker (λ (r : VariableRow). row.0 < r.0) (λ (r : VariableRow). changed.0 < r.0) (λ r low. omega (arith, low, less)) rows above) in
    let never : false ≡ true = sym (ap (λ (found : Option VariableRow). is_some found && is_some changed.1) none) ∙ after_it in
    cc)
    (λ not_less neither same.
    let here = cond-true (row.0 == changed.0) (Some row) (find (λ (r : VariableRow). r.0 == changed.0) rows) (eq-eqb row.0 changed.0 same) in
    own-row changed.0 changed.1 row rows same (sym (ap (λ (found : Option VariableRow). is_some found && is_some changed.1) here) ∙ stays) (rw (← same) above))

-- a change before others may as well be made first

swapped-by : (here : Bool) (place : Option VariablePlace) (answer_given : Option (Option VariablePlace)) (old : Option VariablePlace) → (here ≡ true → answer_given ≡ None)
    → unwrap_or answer_given (cond here place old) ≡ cond here place (unwrap_or answer_given old)
swapped-by here place answer_given old none = grind arith

none-answer_given : (others : List ChangedRow) (variable : ℕ) → AreAbove variable others → option_map (λ (c : ChangedRow). c.1) (find (λ (c : ChangedRow). c.0 == variable) others) ≡ None
none-answer_given others variable above = grind (arith, find-none, All-weaker, above-apart)

pub first-made : (changed : ChangedRow) (others : List ChangedRow) (rows : List VariableRow) → AreAbove changed.0 others → RowsAscend rows
    → merged others (with_changed changed rows) ≡ with_changed changed (merged others rows)
first-made changed others rows above ascends =
    let all = merged-rows-ascend others rows ascends in
    let first = with-ascends changed rows ascends in
    rows-answer_given (merged others (with_changed changed rows)) (with_changed changed (merged others rows)) (merged-rows-ascend others (with_changed changed rows) first) (with-ascends changed (merged others rows) all)
    (λ variable.
    let answer_given = option_map (λ (c : ChangedRow). c.1) (find (λ (c : ChangedRow). c.0 == variable) others) in
    place-merged others (with_changed changed rows) variable first
    ∙ ap (unwrap_or answer_given) (place-with changed rows variable ascends)
    ∙ swapped-by (changed.0 == variable) changed.1 answer_given (place_of rows variable)
    (λ here. none-answer_given others variable (subst (λ (n : ℕ). AreAbove n others) (eqb-true changed.0 variable here) above))
    ∙ ap (cond (changed.0 == variable) changed.1) (sym (place-merged others rows variable ascends))
    ∙ sym (place-with changed (merged others rows) variable all))

pub overwritten-merged : (changed : List ChangedRow) (rows : List VariableRow) → ChangesAscend changed → RowsAscend rows → KeepRows rows changed → rows_overwritten changed rows ≡ merged changed rows
overwritten-merged [] rows changes ascends keep = refl
overwritten-merged (changed ∷ others) rows changes ascends keep =
    overwritten-merged others (map (row_with changed) rows) (ascends-rest changed others changes) (overwritten-ascends changed rows ascends)
    (stays-still changed rows others (All-tail (λ (c : ChangedRow). IsTrue (keeps_row rows c)) changed others keep))
    ∙ ap (merged others) (row-overwritten changed rows ascends (All-head (λ (c : ChangedRow). IsTrue (keeps_row rows c)) changed others keep))
    ∙ first-made changed others rows (ascends-above changed others changes) ascends

-- the changes in their order: after the first so many the next one is made
pub overwritten-more : (changed : List ChangedRow) (rows next : List VariableRow) (index : ℕ) (change : ChangedRow) → index < length changed → change ≡ get_or changed index change → next ≡ map (row_with change) rows
    → rows_overwritten (drop (index + 1) changed) next ≡ rows_overwritten (drop index changed) rows
overwritten-more changed rows next index change within is made = grind (arith, drop-cons)
