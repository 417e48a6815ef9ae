-- Rows that are put in the order of their numbers are the same rows of each number, in their order.
use Rattle.std.proofs.Common.{◌≡◌, ◌∙◌, ap, ℕ, Bool, true, false, cond, List, [], ◌∷◌, filter, refl, sym, arith, if◌then◌else◌}
use Rattle.std.specs.Prelude.{Option, Some, None, find, nat_lt, ◌==◌}
use Rattle.hc_places.specs.Table.{VariableRow, by_number, row_put}

-- rows of a number
abbrev pub numbered : ℕ → VariableRow → Bool
numbered number row = row.0 == number

-- a row that is put among others keeps the rows of each number, in their order

filter-put-by : (history : Bool) (number : ℕ) (row other : VariableRow) (others : List VariableRow) → nat_lt other.0 row.0 ≡ history
    → filter (numbered number) (row_put row others) ≡ filter (numbered number) (row ∷ others)
    → filter (numbered number) (if history then other ∷ row_put row others else row ∷ other ∷ others) ≡ filter (numbered number) (row ∷ other ∷ others)
filter-put-by history number row other others test rest = grind arith

filter-put : (number : ℕ) (row : VariableRow) (rows : List VariableRow) → filter (numbered number) (row_put row rows) ≡ filter (numbered number) (row ∷ rows)
filter-put number row [] = refl
filter-put number row (other ∷ others) = filter-put-by (nat_lt other.0 row.0) number row other others refl (filter-put number row others)

pub filter-by_number : (number : ℕ) (rows : List VariableRow) → filter (λ row. row.0 == number) (by_number rows) ≡ filter (λ row. row.0 == number) rows
filter-by_number number [] = refl
filter-by_number number (row ∷ rows) = grind (arith, filter-put, filter-by_number number rows)

-- the first that passes a test is the first that is kept
first : {X : Type 0} → List X → Option X
first [] = None
first (x ∷ xs) = Some x

first-by : {X : Type 0} (passes : Bool) (x : X) (found : Option X) (unchanged : List X) → found ≡ first unchanged → cond passes (Some x) found ≡ first (cond passes (x ∷ unchanged) unchanged)
unfolding first
first-by true x found unchanged is = refl
first-by false x found unchanged is = is

find-first : {X : Type 0} (test : X → Bool) (xs : List X) → find test xs ≡ first (filter test xs)
unfolding first
find-first test [] = refl
find-first test (x ∷ xs) = first-by (test x) x (find test xs) (filter test xs) (find-first test xs)

-- two lists that keep the same elements have the same first one
pub find-unchanged : {X : Type 0} (test : X → Bool) (xs ys : List X) → filter test xs ≡ filter test ys → find test xs ≡ find test ys
find-unchanged test xs ys same = find-first test xs ∙ ap first same ∙ sym (find-first test ys)

pub find-by_number : (number : ℕ) (rows : List VariableRow) → find (λ row. row.0 == number) (by_number rows) ≡ find (λ row. row.0 == number) rows
find-by_number number rows = find-unchanged (numbered number) (by_number rows) rows (filter-by_number number rows)
