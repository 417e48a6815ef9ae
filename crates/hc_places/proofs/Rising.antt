-- A sort by numbers puts rows in the order that the table keeps.
use Rattle.std.proofs.Common.{◌≡◌, ◌∙◌, ap, ℕ, suc, ◌+◌, ◌<◌, ◌≤◌, Bool, true, false, cond, List, [], ◌∷◌, filter, length, nat_cmp, is_lt, refl, sym, arith, suc-le-suc, zero-le, if◌then◌else◌}
use Rattle.std.specs.Prelude.{All, nat_lt, ◌==◌}
use Rattle.std.specs.List.Sorted.{ties, IsNonDecreasingBy, IsStableByKey}
use Rattle.std.proofs.lemmas.Bool.{cond-true, eq-eqb}
use Rattle.std.proofs.lemmas.Bool.Decides.{nat_tests}
use Rattle.std.proofs.lemmas.List.Elements.{All-nil, All-cons, All-head, All-tail, filter_agree}
use Rattle.std.proofs.lemmas.List.Kept.{AllPairs-cons}
use Rattle.hc_records.proofs.lemmas.Lists.{AllPairs-nil}
use Rattle.hc_records.proofs.lemmas.Choices.{own-swap}
use Rattle.hc_places.specs.Swap.{ChangesAscend}
use Rattle.hc_places.specs.Table.{VariableRow, RowsAscend, by_number, row_put}
use Rattle.hc_places.proofs.lemmas.Once.{of_row}
use Rattle.hc_places.proofs.lemmas.Totals.{total}
use Rattle.hc_places.proofs.lemmas.Sorted.{filter-by_number}

-- rows of a number
abbrev pub numbered : {X : Type 0} → ℕ → ℕ × X → Bool
numbered number row = row.0 == number

-- rows whose numbers are no lower than the first one's, and so on
abbrev AreAtLeast : {X : Type 0} → ℕ → List (ℕ × X) → Type 0
AreAtLeast number rows = All (λ row. number ≤ row.0) rows

abbrev pub Rises : {X : Type 0} → List (ℕ × X) → Type 0
Rises [] = Unit {0}
Rises (row ∷ rows) = AreAtLeast row.0 rows × Rises rows

-- rows that are put in their place rise

put-least : (number : ℕ) (history : Bool) (row other : VariableRow) (rest others : List VariableRow) → number ≤ row.0 → AreAtLeast number (other ∷ others) → AreAtLeast number rest
    → AreAtLeast number (if history then other ∷ rest else row ∷ other ∷ others)
put-least number history row other rest others low all row_put = grind arith

least-put : (number : ℕ) (row : VariableRow) (rows : List VariableRow) → number ≤ row.0 → AreAtLeast number rows → AreAtLeast number (row_put row rows)
least-put number row [] low all = All-cons (λ row. number ≤ row.0) row [] low all
least-put number row (other ∷ others) low all =
    grind (arith, put-least, All-tail, least-put number row others low (All-tail (λ row. number ≤ row.0) other others all))

history-less : (a b : ℕ) → nat_lt a b ≡ true → a ≤ b
history-less a b test = grind (arith, nat_tests)

rises-put-by : (history : Bool) (row other : VariableRow) (others : List VariableRow) → nat_lt other.0 row.0 ≡ history → AreAtLeast other.0 others → Rises others → Rises (row_put row others)
    → Rises (if history then other ∷ row_put row others else row ∷ other ∷ others)
rises-put-by true row other others test least rises put-rises = (least-put other.0 row others (history-less other.0 row.0 test) least, put-rises)
rises-put-by false row other others test least rises put-rises = grind arith

rises-put : (row : VariableRow) (rows : List VariableRow) → Rises rows → Rises (row_put row rows)
rises-put row [] rises = (All-nil (λ later. row.0 ≤ later.0), tt)
rises-put row (other ∷ others) rises = rises-put-by (nat_lt other.0 row.0) row other others refl rises.0 rises.1 (rises-put row others rises.1)

rises-by_number : (rows : List VariableRow) → Rises (by_number rows)
rises-by_number [] = tt
rises-by_number (row ∷ rows) = rises-put row (by_number rows) (rises-by_number rows)

-- rows in order that have the same rows of each number are the same

pub rises-sorted : {X : Type 0} (rows : List (ℕ × X)) → IsNonDecreasingBy (λ row. row.0) rows → Rises rows
rises-sorted [] sorted = tt
rises-sorted (row ∷ rows) sorted = (
  (λ k d within. sorted 0 (suc k) d zero-le (suc-le-suc within)),
  rises-sorted rows (λ i j d low within. sorted (suc i) (suc j) d (suc-le-suc low) (suc-le-suc within)),
)

filter-own : {X : Type 0} (row : ℕ × X) (rows : List (ℕ × X)) → filter (numbered row.0) (row ∷ rows) ≡ row ∷ filter (numbered row.0) rows
filter-own row rows = cond-true _ _ _ (eq-eqb row.0 row.0 refl)

-- a number that is among them is no lower
least-found-by : (passes : Bool) (number least : ℕ) (row : VariableRow) (rows unchanged : List VariableRow) → (row.0 == number) ≡ passes → least ≤ row.0 → (filter (numbered number) rows ≡ unchanged → least ≤ number)
    → cond passes (row ∷ filter (numbered number) rows) (filter (numbered number) rows) ≡ unchanged → least ≤ number
least-found-by passes number least row rows unchanged test low later is = grind arith

least-found : (number least : ℕ) (rows : List VariableRow) (one : VariableRow) (more : List VariableRow) → AreAtLeast least rows → filter (numbered number) rows ≡ one ∷ more → least ≤ number
least-found number least [] one more all is = cc
least-found number least (row ∷ rows) one more all is =
    grind (arith, least-found-by, All-head, All-tail, least-found number least rows one more (All-tail (λ row. least ≤ row.0) row rows all))

tails-by : (passes : Bool) (one two : VariableRow) (ones twos : List VariableRow) → one ≡ two → cond passes (one ∷ ones) ones ≡ cond passes (two ∷ twos) twos → ones ≡ twos
tails-by passes one two ones twos head is = grind arith

tails : (one two : VariableRow) (ones twos : List VariableRow) → one ≡ two → ((number : ℕ) → filter (numbered number) (one ∷ ones) ≡ filter (numbered number) (two ∷ twos))
    → (number : ℕ) → filter (numbered number) ones ≡ filter (numbered number) twos
tails one two ones twos head same number =
    tails-by (one.0 == number) one two (filter (numbered number) ones) (filter (numbered number) twos) head
    (same number ∙ ap (λ row. cond (row.0 == number) (two ∷ filter (numbered number) twos) (filter (numbered number) twos)) (sym head))

same-rows : (ones twos : List VariableRow) → Rises ones → Rises twos → ((number : ℕ) → filter (numbered number) ones ≡ filter (numbered number) twos) → ones ≡ twos
same-rows [] [] first second same = refl
same-rows [] (two ∷ twos) first second same = let clash = same two.0 ∙ filter-own two twos in cc
same-rows (one ∷ ones) [] first second same = let clash = sym (same one.0) ∙ filter-own one ones in cc
same-rows (one ∷ ones) (two ∷ twos) first second same =
    let up = least-found one.0 two.0 (two ∷ twos) one _ (All-cons (λ row. two.0 ≤ row.0) two twos (omega arith) second.0) (sym (same one.0) ∙ filter-own one ones) in
    let down = least-found two.0 one.0 (one ∷ ones) two _ (All-cons (λ row. one.0 ≤ row.0) one ones (omega arith) first.0) (same two.0 ∙ filter-own two twos) in
    let number : two.0 ≡ one.0 = omega arith in
    let heads = sym (filter-own one ones) ∙ same one.0 ∙ cond-true _ _ _ (eq-eqb two.0 one.0 number) in
    let head : one ≡ two = cc in
    let rest = same-rows ones twos first.1 second.1 (tails one two ones twos head same) in
    cc

-- the ties of a stable sort are the rows of one number
ties-numbered : (a b : ℕ) → ties (λ x y. is_lt (nat_cmp x y)) a b ≡ (b == a)
ties-numbered a b = grind (arith, nat_tests)

abbrev tied_with : {X : Type 0} → ℕ × X → ℕ × X → Bool
tied_with {X} row = ties (λ (a b : ℕ × X). is_lt (nat_cmp a.0 b.0)) row

-- so it keeps the rows of each number, in their order
pub stable-unchanged : {X : Type 0} (x : X) (rows sorted : List (ℕ × X)) → IsStableByKey (λ (row : ℕ × X). row.0) nat_cmp rows sorted
    → (number : ℕ) → filter (numbered number) sorted ≡ filter (numbered number) rows
stable-unchanged {X} x rows sorted stable number =
    let tied : (row : ℕ × X) → tied_with (number, x) row ≡ numbered number row = λ row. ties-numbered number row.0 in
    sym (filter_agree (tied_with (number, x)) (numbered number) tied sorted)
    ∙ stable (number, x)
    ∙ filter_agree (tied_with (number, x)) (numbered number) tied rows

-- a place, whatever its bits

pub sorted-by_number : (rows sorted : List VariableRow) → IsNonDecreasingBy (λ row. row.0) sorted → IsStableByKey (λ (row : VariableRow). row.0) nat_cmp rows sorted → sorted ≡ by_number rows
sorted-by_number rows sorted rises stable =
    grind (arith, same-rows, rises-sorted, rises-by_number, stable-unchanged, filter-by_number)

-- rows that rise, and never have one number twice, ascend

none-unchanged-by : {X : Type 0} (passes : Bool) (row : X) (unchanged : List X) → length (cond passes (row ∷ unchanged) unchanged) ≤ 0 → (passes ≡ false) × (length unchanged ≤ 0)
none-unchanged-by passes row unchanged few = grind arith

none-unchanged : {X : Type 0} (number : ℕ) (rows : List (ℕ × X)) → length (filter (numbered number) rows) ≤ 0 → All (λ row. (row.0 == number) ≡ false) rows
none-unchanged number [] few = All-nil (λ row. (row.0 == number) ≡ false)
none-unchanged number (row ∷ rows) few =
    let both = none-unchanged-by (row.0 == number) row (filter (numbered number) rows) few in
    All-cons (λ row. (row.0 == number) ≡ false) row rows both.0 (none-unchanged number rows both.1)

strictly : (a b : ℕ) → a ≤ b → (b == a) ≡ false → a < b
strictly a b low other = grind (arith, nat_tests)

unchanged-fewer : {X : Type 0} (passes : Bool) (row : X) (unchanged : List X) → length (cond passes (row ∷ unchanged) unchanged) ≤ 1 → length unchanged ≤ 1
unchanged-fewer passes row unchanged few = grind arith

pub rising-ascends : {X : Type 0} (rows : List (ℕ × X)) → Rises rows → ((number : ℕ) → length (filter (numbered number) rows) ≤ 1) → ChangesAscend rows
rising-ascends [] rises few = AllPairs-nil (λ a b. a.0 < b.0)
rising-ascends (row ∷ rows) rises few =
    let own : length (filter (numbered row.0) (row ∷ rows)) ≡ suc (length (filter (numbered row.0) rows)) = ap length (filter-own row rows) in
    let one = few row.0 in
    let others = none-unchanged row.0 rows (omega arith) in
    AllPairs-cons (λ a b. a.0 < b.0) row rows (λ k d within. strictly _ _ (rises.0 k d within) (others k d within))
    (rising-ascends rows rises.1 (λ number. unchanged-fewer (row.0 == number) row (filter (numbered number) rows) (few number)))

pub ascends-by_number : (rows : List VariableRow) → ((number : ℕ) → length (filter (numbered number) rows) ≤ 1) → RowsAscend (by_number rows)
ascends-by_number rows few =
    rising-ascends (by_number rows) (rises-by_number rows) (λ number. rw (filter-by_number number rows) (few number))

unchanged-length-by : (passes : Bool) (row : VariableRow) (unchanged : List VariableRow) → length (cond passes (row ∷ unchanged) unchanged) ≡ cond passes 1 0 + length unchanged
unchanged-length-by passes row unchanged = grind arith

-- the number of rows of a number
pub unchanged-length : (number : ℕ) (rows : List VariableRow) → length (filter (numbered number) rows) ≡ total (of_row number) rows
unchanged-length number [] = refl
unchanged-length number (row ∷ rows) = grind (arith, unchanged-length-by, own-swap, unchanged-length number rows)
