-- Two lists of numbers, each once, that have the same members are as long.
use Rattle.std.proofs.Common.{◌≡◌, ℕ, suc, ◌≤◌, Bool, true, false, cond, List, [], ◌∷◌, length, refl, sym, arith, zero-le}
use Rattle.std.specs.Prelude.{All, AllPairs, filter, not, ◌==◌, ◌≢◌, ◌||◌, ◌&&◌}
use Rattle.std.specs.List.{list_any}
use Rattle.std.proofs.lemmas.Bool.{eq-eqb, eqb-true, or_left, or_right}
use Rattle.std.proofs.lemmas.List.Elements.{All-head, All-tail}
use Rattle.hc_records.proofs.lemmas.Lists.{AllPairs-head, AllPairs-tail, filter-few}
use Rattle.hc_records.proofs.lemmas.Choices.{member-by}

abbrev pub among : ℕ → List ℕ → Bool
among variable xs = list_any (λ x. x == variable) xs

unchanged-among : (stays : Bool) (variable x : ℕ) (unchanged : List ℕ) → among variable (cond stays (x ∷ unchanged) unchanged) ≡ cond stays ((x == variable) || among variable unchanged) (among variable unchanged)
unchanged-among stays variable x unchanged = grind arith

unchanged-tests : (stays is rest passes : Bool) → (is ≡ true → stays ≡ passes) → cond stays (is || (rest && passes)) (rest && passes) ≡ ((is || rest) && passes)
unchanged-tests stays is rest passes same = grind arith

pub among-filter : (p : ℕ → Bool) (variable : ℕ) (xs : List ℕ) → among variable (filter p xs) ≡ (among variable xs && p variable)
among-filter p variable [] = refl
among-filter p variable (x ∷ xs) =
    grind (arith, unchanged-among, unchanged-tests, eqb-true, among-filter p variable xs)

-- the others of a member are one fewer

abbrev others : ℕ → List ℕ → List ℕ
others x ys = filter (λ y. not (y == x)) ys

fewer-by : (here : Bool) (y : ℕ) (unchanged ys : List ℕ) → length unchanged ≤ length ys → (here ≡ false → suc (length unchanged) ≤ length ys)
    → suc (length (cond (not here) (y ∷ unchanged) unchanged)) ≤ suc (length ys)
fewer-by here y unchanged ys few rest = grind arith

others-fewer : (x : ℕ) (ys : List ℕ) → among x ys ≡ true → suc (length (others x ys)) ≤ length ys
others-fewer x [] is = cc
others-fewer x (y ∷ ys) is =
    fewer-by (y == x) y (others x ys) ys (filter-few (λ y. not (y == x)) ys)
    (λ not_here. others-fewer x ys (member-by (y == x) (among x ys) is not_here))

-- a list each of whose numbers is a member of another is no longer

none-by : (here rest : Bool) → (here ≡ true → ⊥) → rest ≡ false → (here || rest) ≡ false
none-by here rest never is = grind arith

none-among : (x : ℕ) (xs : List ℕ) → All (λ y. x ≢ y) xs → among x xs ≡ false
none-among x [] apart = refl
none-among x (y ∷ ys) apart =
    none-by (y == x) (among x ys) (λ same. All-head (λ y. x ≢ y) y ys apart (sym (eqb-true y x same))) (none-among x ys (All-tail (λ y. x ≢ y) y ys apart))

other-by : (here : Bool) (v x : ℕ) (xs : List ℕ) → (v == x) ≡ here → among x xs ≡ false → among v xs ≡ true → here ≡ false
other-by here v x xs test apart is = grind arith

-- a member of the rest is a member, and not the first
rest-member : (x v : ℕ) (xs ys : List ℕ) → among x xs ≡ false → ((v : ℕ) → among v (x ∷ xs) ≡ true → among v ys ≡ true) → among v xs ≡ true → among v (others x ys) ≡ true
rest-member x v xs ys apart within is = grind (arith, or_right, other-by, among-filter)

no-longer : (xs ys : List ℕ) → AllPairs (λ a b. a ≢ b) xs → ((v : ℕ) → among v xs ≡ true → among v ys ≡ true) → length xs ≤ length ys
no-longer [] ys once within = zero-le
no-longer (x ∷ xs) ys once within =
    let apart = none-among x xs (AllPairs-head (λ a b. a ≢ b) x xs once) in
    let rest = no-longer xs (others x ys) (AllPairs-tail (λ a b. a ≢ b) x xs once) (λ v is. rest-member x v xs ys apart within is) in
    let fewer = others-fewer x ys (within x (or_left (x == x) (among x xs) (eq-eqb x x refl))) in
    omega (arith, rest, fewer)

pub as-long : (xs ys : List ℕ) → AllPairs (λ a b. a ≢ b) xs → AllPairs (λ a b. a ≢ b) ys → ((v : ℕ) → among v xs ≡ among v ys) → length xs ≡ length ys
as-long xs ys first second same = grind (arith, no-longer)
