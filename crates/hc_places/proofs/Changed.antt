-- The variables of two tables whose place differs: which they are, each once.
use Rattle.std.proofs.Common.{◌≡◌, ◌∙◌, ap, ℕ, ◌<◌, Bool, true, false, cond, List, [], ◌∷◌, ◌++◌, refl, arith}
use Rattle.std.specs.Prelude.{All, Option, Some, None, filter, find, map, not, option_map, ◌==◌, ◌≢◌, ◌||◌, ◌&&◌, ◌↔◌, AllPairs}
use Rattle.std.specs.Option.{option_map_or}
use Rattle.std.specs.List.{list_any}
use Rattle.std.proofs.lemmas.List.Kept.{AllPairs-filter}
use Rattle.hc_records.proofs.lemmas.Lists.{AllPairs-append, AllPairs-map, AllPairs-weaker}
use Rattle.std.proofs.lemmas.Bool.{cond-true, cond-false, eq-eqb, or_right}
use Rattle.std.proofs.lemmas.Bool.Decides.{nat_tests}
use Rattle.std.proofs.lemmas.List.Elements.{All-head, All-nil, All-tail, All-weaker, All-cons, filter_passes}
use Rattle.hc_records.specs.Image.{VariablePlace}
use Rattle.hc_records.proofs.lemmas.Choices.{moved}
use Rattle.hc_places.specs.Table.{VariableRow, RowsAscend}
use Rattle.hc_places.specs.Swap.{ChangesAscend, same_found}
use Rattle.hc_places.proofs.Members.{among, among-filter}
use Rattle.hc_places.proofs.lemmas.Same.{found-same}
use Rattle.hc_places.proofs.Walked.{AreAbove}

-- the definitions, of rows in place of tables

abbrev pub place_of : List VariableRow → ℕ → Option VariablePlace
place_of rows variable = option_map (λ row. row.1) (find (λ row. row.0 == variable) rows)

abbrev differs : List VariableRow → List VariableRow → ℕ → Bool
differs old new variable = not (same_found (place_of old variable) (place_of new variable))

abbrev appears : List VariableRow → ℕ → Bool
appears old variable = not (option_map_or (λ place. true) (place_of old variable) false)

abbrev pub numbers : {X : Type 0} → List (ℕ × X) → List ℕ
numbers rows = map (λ row. row.0) rows

abbrev of_both : List VariableRow → List VariableRow → List ℕ
of_both old new = numbers old ++ filter (appears old) (numbers new)

abbrev pub different : List VariableRow → List VariableRow → List ℕ
different old new = filter (differs old new) (of_both old new)

-- rows before a look-up

pub above-apart : (a b : ℕ) → b < a → (a == b) ≡ false
above-apart a b less = grind (arith, nat_tests)

pub place-here : (row : VariableRow) (rows : List VariableRow) (variable : ℕ) → row.0 ≡ variable → place_of (row ∷ rows) variable ≡ Some row.1
place-here row rows variable same = ap (option_map (λ (row : VariableRow). row.1)) (cond-true _ _ _ (eq-eqb row.0 variable same))

pub place-none : (rows : List VariableRow) (variable : ℕ) → AreAbove variable rows → place_of rows variable ≡ None
place-none [] variable above = refl
place-none (row ∷ rows) variable above =
    grind (arith, cond-false, above-apart, All-head, All-tail, place-none rows variable (All-tail (λ (r : VariableRow). variable < r.0) row rows above))

-- a variable is among the different ones exactly if its place differs

abbrev is_placed : Option VariablePlace → Bool
is_placed found = option_map_or (λ place. true) found false

among-append : (variable : ℕ) (xs ys : List ℕ) → among variable (xs ++ ys) ≡ (among variable xs || among variable ys)
among-append variable [] ys = refl
among-append variable (x ∷ xs) ys =
    ap (λ (b : Bool). (x == variable) || b) (among-append variable xs ys) ∙ moved (x == variable) (among variable xs) (among variable ys)

is_placed-by : (here : Bool) (row : VariableRow) (found : Option VariableRow) → (here || is_placed (option_map (λ (r : VariableRow). r.1) found)) ≡ is_placed (option_map (λ (r : VariableRow). r.1) (cond here (Some row) found))
is_placed-by here row found = grind arith

among-numbers : (rows : List VariableRow) (variable : ℕ) → among variable (numbers rows) ≡ is_placed (place_of rows variable)
among-numbers [] variable = refl
among-numbers (row ∷ rows) variable =
    ap (λ (b : Bool). (row.0 == variable) || b) (among-numbers rows variable) ∙ is_placed-by (row.0 == variable) row (find (λ (r : VariableRow). r.0 == variable) rows)

are_placed-or-appear : (old new : Option VariablePlace) → ((is_placed old || (is_placed new && not (is_placed old))) && not (same_found old new)) ≡ not (same_found old new)
are_placed-or-appear old new = grind arith

pub different-among : (old new : List VariableRow) (variable : ℕ) → list_any (λ changed. changed == variable) (different old new) ≡ not (same_found (place_of old variable) (place_of new variable))
different-among old new variable =
    grind (arith, among-numbers, among-filter, among-append, among, are_placed-or-appear)

differ-by : (same : Bool) (a b : Option VariablePlace) → same_found a b ≡ same → a ≢ b → not same ≡ true
differ-by same a b is apart = grind arith

same-by : (same : Bool) → same ≡ true → not same ≡ true → ⊥
same-by same is apart = grind arith

pub different-apart : (old new : List VariableRow) (variable : ℕ)
    → (list_any (λ changed. changed == variable) (different old new) ≡ true) ↔ (place_of old variable ≢ place_of new variable)
different-apart old new variable =
    grind (arith, among, different-among, same-by, found-same, differ-by)

-- and each is once

own-are_placed : (rows : List VariableRow) → All (λ x. is_placed (place_of rows x) ≡ true) (numbers rows)
own-are_placed [] = All-nil (λ x. is_placed (place_of [] x) ≡ true)
own-are_placed (row ∷ rows) =
    grind (arith, All-cons, place-here, All-weaker, is_placed-by, or_right, own-are_placed rows)

pub numbers-once : {X : Type 0} (rows : List (ℕ × X)) → ChangesAscend rows → AllPairs (λ a b. a ≢ b) (numbers rows)
numbers-once {X} rows ascends =
    AllPairs-map (λ a b. a ≢ b) (λ (row : ℕ × X). row.0) rows
    (AllPairs-weaker (λ (a b : ℕ × X). a.0 < b.0) (λ (a b : ℕ × X). a.0 ≢ b.0) (λ a b less same. absurd (omega arith)) rows ascends)

apart-tests : (old : List VariableRow) (x y : ℕ) → is_placed (place_of old x) ≡ true → appears old y ≡ true → x ≢ y
apart-tests old x y standing appearing same = grind arith

pub different-once : (old new : List VariableRow) → RowsAscend old → RowsAscend new → AllPairs (λ a b. a ≢ b) (different old new)
different-once old new before after =
    AllPairs-filter (λ a b. a ≢ b) (differs old new) (of_both old new)
    (AllPairs-append (λ a b. a ≢ b) (numbers old) (filter (appears old) (numbers new)) (numbers-once old before)
    (AllPairs-filter (λ a b. a ≢ b) (appears old) (numbers new) (numbers-once new after))
    (All-weaker (λ x. is_placed (place_of old x) ≡ true) (λ x. All (λ y. x ≢ y) (filter (appears old) (numbers new)))
    (λ x standing. All-weaker (λ y. appears old y ≡ true) (λ y. x ≢ y) (λ y appearing. apart-tests old x y standing appearing) (filter (appears old) (numbers new)) (filter_passes (appears old) (numbers new)))
    (numbers old) (own-are_placed old)))
