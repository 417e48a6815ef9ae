-- The number of rows with a lower number than a variable's, counted among some of the rows, and the row after them.
use Rattle.std.proofs.Common.{◌≡◌, ◌∙◌, ap, ℕ, zero, suc, ◌+◌, ◌<◌, ◌≤◌, Bool, true, false, cond, List, [], ◌∷◌, drop, get_or, length, map, set, take, refl, sym, subst, arith}
use Rattle.std.specs.Prelude.{Option, Some, None, ◌-◌, nat_lt, slice_get, unwrap_or, ◌==◌, ◌≢◌}
use Rattle.std.specs.List.{AllWithin}
use Rattle.std.specs.List.Sorted.{IsNonDecreasingBy}
use Rattle.std.proofs.lemmas.Bool.{cond-true, eq-eqb, ltb-false, lt-ltb, le-ltb}
use Rattle.std.proofs.lemmas.Bool.Decides.{nat_tests}
use Rattle.std.proofs.lemmas.Option.{get_or_from_slice_get, slice_get_within}
use Rattle.std.proofs.lemmas.List.{get_or_default, get_or-drop, get_or-map, get_or-take, length-drop, length-take}
use Rattle.hc_records.specs.Image.{VariablePlace}
use Rattle.hc_places.specs.inner.Overwritten.{AreBelow, EndsLower, NextIsNotLower, row_with}
use Rattle.hc_places.specs.Swap.{ChangedRow, ChangesAscend}
use Rattle.hc_places.specs.Table.{VariableRow, RowsAscend}
use Rattle.hc_places.proofs.Overwritten.{above-stay, other-row, same-number}
use Rattle.hc_places.proofs.Walked.{AreAbove, above-cons, ascends-above, ascends-rest, by-order}

below-other : (a b : ℕ) → nat_lt a b ≡ true → (a == b) ≡ false
below-other a b below = grind (arith, nat_tests)

-- rows that ascend don't fall
pub ascends-rises : (rows : List VariableRow) → RowsAscend rows → IsNonDecreasingBy (λ (row : VariableRow). row.0) rows
ascends-rises [] ascends i j d low within = absurd (omega arith)
ascends-rises (row ∷ rows) ascends zero zero d low within = omega arith
ascends-rises (row ∷ rows) ascends zero (suc j) d low within = let less = ascends-above row rows ascends j d (omega arith) in omega (arith, less)
ascends-rises (row ∷ rows) ascends (suc i) zero d low within = absurd (omega arith)
ascends-rises (row ∷ rows) ascends (suc i) (suc j) d low within = ascends-rises rows (ascends-rest row rows ascends) i j d (omega arith) (omega arith)

-- if a row has no lower number, none after it has
pub reached-row : (rows : List VariableRow) (variable reach : ℕ) (row : VariableRow) → RowsAscend rows → row ≡ get_or rows reach row → variable ≤ row.0 → (k : ℕ) (d : VariableRow) → reach ≤ k → k < length rows
    → nat_lt (get_or rows k d).0 variable ≡ false
reached-row rows variable reach row ascends is reached k d low within =
    let here = ap (λ (r : VariableRow). r.0) (is ∙ get_or_default rows reach row d (omega arith)) in
    let up = ascends-rises rows ascends reach k d low within in
    le-ltb (get_or rows k d).0 variable (omega (arith, here, up, reached))

-- so the rows on both sides say how many are lower
pub below-answer_given : (rows : List VariableRow) (variable count : ℕ) → RowsAscend rows → EndsLower rows variable count → NextIsNotLower rows variable count → count ≤ length rows → AreBelow rows variable count
below-answer_given rows variable count ascends front after_it bound = (
  (λ k d low high.
      let up = ascends-rises rows ascends k (count - 1) d (omega (arith, high)) (omega (arith, bound, high)) in
      let last = front d (omega (arith, high)) in
      lt-ltb (get_or rows k d).0 variable (omega (arith, up, last))),
  (λ k d low high.
      let up = ascends-rises rows ascends count k d low high in
      let first = after_it d (omega (arith, low, high)) in
      le-ltb (get_or rows k d).0 variable (omega (arith, up, first))),
)

-- a variable's own row gives it too

ascends-lower : (rows : List VariableRow) → RowsAscend rows → (i j : ℕ) (d : VariableRow) → i < j → j < length rows → (get_or rows i d).0 < (get_or rows j d).0
ascends-lower [] ascends i j d low within = absurd (omega arith)
ascends-lower (row ∷ rows) ascends i zero d low within = absurd (omega arith)
ascends-lower (row ∷ rows) ascends zero (suc j) d low within = ascends-above row rows ascends j d (omega arith)
ascends-lower (row ∷ rows) ascends (suc i) (suc j) d low within = ascends-lower rows (ascends-rest row rows ascends) i j d (omega arith) (omega arith)

pub own-answer_given : (rows : List VariableRow) (variable index : ℕ) (row : VariableRow) → RowsAscend rows → slice_get rows index ≡ Some row → row.0 ≡ variable → (index ≤ length rows) × AreBelow rows variable index
own-answer_given rows variable index row ascends is own =
    let within = slice_get_within rows index row is in
    let here : (d : VariableRow) → (get_or rows index d).0 ≡ variable = λ d. ap (λ (r : VariableRow). r.0) (get_or_from_slice_get rows index row d is) ∙ own in (
      omega (arith, within),
      below-answer_given rows variable index ascends
          (λ d some. let less = ascends-lower rows ascends (index - 1) index d (omega (arith, some)) within in let same = here d in omega (arith, less, same))
          (λ d low. let same = here d in omega (arith, same))
          (omega (arith, within)),
    )

-- the rows with a lower number among the first rows are those of all, if none after these is lower
pub below-reached : (rows : List VariableRow) (variable reach count : ℕ) → count ≤ length (take reach rows) → AreBelow (take reach rows) variable count
    → ((k : ℕ) (d : VariableRow) → reach ≤ k → k < length rows → nat_lt (get_or rows k d).0 variable ≡ false) → AreBelow rows variable count
below-reached rows variable reach count bound below after_it =
    grind (arith, length-take, get_or, get_or-take, by-order)

-- those after some lower ones are the rest of all
pub below-after_it : (rows : List VariableRow) (variable front count : ℕ) → front ≤ length rows → AllWithin (λ (row : VariableRow). row.0 < variable) rows 0 front → AreBelow (drop front rows) variable count
    → AreBelow rows variable (front + count)
below-after_it rows variable front count within lower below =
    let size = length-drop front rows in
    let unchanged : (k : ℕ) (d : VariableRow) → front ≤ k → nat_lt (get_or (drop front rows) (k - front) d).0 variable ≡ nat_lt (get_or rows k d).0 variable =
    λ k d history.
    let at : front + (k - front) ≡ k = omega (arith, history) in
    ap (λ (row : VariableRow). nat_lt row.0 variable) (get_or-drop front rows (k - front) d) ∙ ap (λ (n : ℕ). nat_lt (get_or rows n d).0 variable) at in
    let rest : (k : ℕ) (d : VariableRow) → front ≤ k → k < front + count → nat_lt (get_or rows k d).0 variable ≡ true =
    λ k d history high. sym (unchanged k d history) ∙ below.0 (k - front) d (omega arith) (omega (arith, history, high)) in (
      (λ k d low high. by-order k front
          (λ t inside. lt-ltb (get_or rows k d).0 variable (lower k d low inside))
          (λ t u history. rest k d (omega (arith, history)) high)
          (λ t u same. rest k d (omega (arith, same)) high)),
      (λ k d low high. sym (unchanged k d (omega (arith, low))) ∙ below.1 (k - front) d (omega (arith, low)) (omega (arith, size, low, high))),
    )

-- the row after those of lower numbers is overwritten, if it is the variable's

rest-below : (row : VariableRow) (rows : List VariableRow) (variable at : ℕ) → AreBelow (row ∷ rows) variable (suc at) → AreBelow rows variable at
rest-below row rows variable at below = (
  (λ k d low high. below.0 (suc k) d (omega arith) (omega (arith, high))),
  (λ k d low high. below.1 (suc k) d (omega (arith, low)) (omega (arith, high))),
)

first-below : (changed : ChangedRow) (row : VariableRow) (rows : List VariableRow) (at : ℕ) → AreBelow (row ∷ rows) changed.0 (suc at) → row_with changed row ≡ row
first-below changed row rows at below = other-row changed row (below-other row.0 changed.0 (below.0 0 row (omega arith) (omega arith)))

own-place : (changed : ChangedRow) (place : VariablePlace) (row : VariableRow) → changed.1 ≡ Some place → row.0 ≡ changed.0 → row_with changed row ≡ (changed.0, place)
own-place changed place row new same =
    cond-true _ _ _ (eq-eqb row.0 changed.0 same) ∙ ap (λ (p : Option VariablePlace). (row.0, unwrap_or p row.1)) new ∙ ap (λ (n : ℕ). (n, place)) same

pub row-set : (changed : ChangedRow) (place : VariablePlace) (rows : List VariableRow) (at : ℕ) (d : VariableRow) → changed.1 ≡ Some place → RowsAscend rows → AreBelow rows changed.0 at → at < length rows
    → (get_or rows at d).0 ≡ changed.0 → set rows at (changed.0, place) ≡ map (row_with changed) rows
row-set changed place [] at d new ascends below within same = absurd (omega arith)
row-set changed place (row ∷ rows) zero d new ascends below within same =
    ap (λ (r : VariableRow). r ∷ rows) (sym (own-place changed place row new same))
    ∙ ap (λ (l : List VariableRow). row_with changed row ∷ l) (above-stay changed rows (subst (λ (n : ℕ). AreAbove n rows) same (ascends-above row rows ascends)))
row-set changed place (row ∷ rows) (suc at) d new ascends below within same =
    ap (λ (r : VariableRow). r ∷ set rows at (changed.0, place)) (sym (first-below changed row rows at below))
    ∙ ap (λ (l : List VariableRow). row_with changed row ∷ l)
    (row-set changed place rows at d new (ascends-rest row rows ascends) (rest-below row rows changed.0 at below) (omega arith) same)

pub none-set : (changed : ChangedRow) (rows : List VariableRow) (at : ℕ) → RowsAscend rows → AreBelow rows changed.0 at → ((d : VariableRow) → at < length rows → (get_or rows at d).0 ≢ changed.0)
    → rows ≡ map (row_with changed) rows
none-set changed [] at ascends below none = refl
none-set changed (row ∷ rows) zero ascends below none =
    let after_it = ltb-false row.0 changed.0 (below.1 0 row (omega arith) (omega arith)) in
    let other : row.0 ≢ changed.0 = none row (omega arith) in
    above-stay changed (row ∷ rows) (above-cons changed.0 row rows (omega (arith, after_it, other)) (ascends-above row rows ascends))
none-set changed (row ∷ rows) (suc at) ascends below none =
    ap (λ (r : VariableRow). r ∷ rows) (sym (first-below changed row rows at below))
    ∙ ap (λ (l : List VariableRow). row_with changed row ∷ l)
    (none-set changed rows at (ascends-rest row rows ascends) (rest-below row rows changed.0 at below) (λ d within. none d (omega (arith, within))))

-- nothing is overwritten if there is no new place

as-it-was : (own : Bool) (row : VariableRow) → row ≡ cond own (row.0, row.1) row
as-it-was own row = grind arith

pub no-place : (changed : ChangedRow) (rows : List VariableRow) → changed.1 ≡ None → rows ≡ map (row_with changed) rows
no-place changed [] none = refl
no-place changed (row ∷ rows) none = grind (arith, as-it-was, no-place changed rows none)

-- the first rows are lower than the changes from one on
abbrev pub AreLower : List VariableRow → ℕ → List ChangedRow → ℕ → Type 0
AreLower rows front changed index = (k j : ℕ) (d : VariableRow) (e : ChangedRow) → k < front → index ≤ j → j < length changed → (get_or rows k d).0 < (get_or changed j e).0

pub lower-next : (rows : List VariableRow) (front : ℕ) (changed : List ChangedRow) (index : ℕ) (change : ChangedRow) → ChangesAscend changed → index < length changed → change ≡ get_or changed index change
    → AllWithin (λ (row : VariableRow). row.0 ≤ change.0) rows 0 front → AreLower rows front changed (index + 1)
lower-next rows front changed index change ascends within is low k j d e high later inside =
    let same = ap (λ (c : ChangedRow). c.0) (is ∙ get_or_default changed index change e within) in
    let up = ascends index j e (omega (arith, later)) inside in
    let held = low k d (omega arith) high in
    omega (arith, same, up, held)

-- so they are once a row is overwritten
pub lower-still : (changed : ChangedRow) (rows next : List VariableRow) (front : ℕ) (all : List ChangedRow) (index : ℕ) → next ≡ map (row_with changed) rows → front ≤ length rows → AreLower rows front all index
    → AreLower next front all index
lower-still changed rows next front all index is bound lower k j d e high later inside =
    let same = ap (λ (l : List VariableRow). (get_or l k d).0) is ∙ ap (λ (r : VariableRow). r.0) (get_or-map (row_with changed) rows k d d (omega (arith, bound, high))) ∙ same-number changed (get_or rows k d) in
    let less = lower k j d e high later inside in
    omega (arith, same, less)
