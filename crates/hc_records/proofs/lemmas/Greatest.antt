-- The greatest of the numbers of a list's elements, or a first number where that is greater.
use Rattle.std.proofs.Common.{ℕ, ◌≤◌, List, [], ◌∷◌, arith}
use Rattle.std.specs.Prelude.{All, fold, max}
use Rattle.std.proofs.lemmas.List.Elements.{All-nil, All-cons, All-head, All-tail}

abbrev pub greatest : {X : Type 0} → (X → ℕ) → ℕ → List X → ℕ
greatest number first xs = fold (λ most x. max most (number x)) first xs

pub greatest-first : {X : Type 0} (number : X → ℕ) (first : ℕ) (xs : List X) → first ≤ greatest number first xs
greatest-first number first [] = omega arith
greatest-first number first (x ∷ xs) = let rest = greatest-first number (max first (number x)) xs in omega arith

pub greatest-all : {X : Type 0} (number : X → ℕ) (first : ℕ) (xs : List X) → All (λ x. number x ≤ greatest number first xs) xs
greatest-all number first [] = All-nil (λ x. number x ≤ first)
greatest-all number first (x ∷ xs) =
    let next = max first (number x) in
    let least = greatest-first number next xs in
    All-cons (λ y. number y ≤ greatest number next xs) x xs (omega arith) (greatest-all number next xs)

pub greatest-most : {X : Type 0} (number : X → ℕ) (first most : ℕ) (xs : List X) → first ≤ most → All (λ x. number x ≤ most) xs → greatest number first xs ≤ most
greatest-most number first most [] low all = low
greatest-most number first most (x ∷ xs) low all =
    let here = All-head (λ y. number y ≤ most) x xs all in
    greatest-most number (max first (number x)) most xs (omega arith) (All-tail (λ y. number y ≤ most) x xs all)
