-- Sums over lists, by recursion.
use Rattle.std.proofs.Common.{◌≡◌, ℕ, ◌+◌, ◌≤◌, Bool, cond, List, [], ◌∷◌, ◌++◌, filter, refl, sym, arith}
use Rattle.std.specs.Prelude.{All, map}
use Rattle.std.specs.List.{enumerate_from, flat_map, zip}
use Rattle.std.proofs.lemmas.List.Elements.{All-head, All-tail}

abbrev pub total : {X : Type 0} → (X → ℕ) → List X → ℕ
total f [] = 0
total f (x ∷ xs) = f x + total f xs

pub total-append : {X : Type 0} (f : X → ℕ) (xs ys : List X) → total f (xs ++ ys) ≡ total f xs + total f ys
total-append f [] ys = omega arith
total-append f (x ∷ xs) ys = let rest = total-append f xs ys in omega arith

pub total-flat_map : {X Y : Type 0} (f : Y → ℕ) (pieces : X → List Y) (xs : List X) → total f (flat_map pieces xs) ≡ total (λ x. total f (pieces x)) xs
total-flat_map f pieces [] = refl
total-flat_map f pieces (x ∷ xs) = grind (arith, total-append, total-flat_map f pieces xs)

pub total-map : {X Y : Type 0} (f : Y → ℕ) (made : X → Y) (xs : List X) → total f (map made xs) ≡ total (λ x. f (made x)) xs
total-map f made [] = refl
total-map f made (x ∷ xs) = let rest = total-map f made xs in omega arith

unchanged-total : {X : Type 0} (passes : Bool) (f : X → ℕ) (x : X) (unchanged : List X) → total f (cond passes (x ∷ unchanged) unchanged) ≡ cond passes (f x) 0 + total f unchanged
unchanged-total passes f x unchanged = grind arith

pub total-filter : {X : Type 0} (f : X → ℕ) (test : X → Bool) (xs : List X) → total f (filter test xs) ≡ total (λ x. cond (test x) (f x) 0) xs
total-filter f test [] = refl
total-filter f test (x ∷ xs) = grind (arith, unchanged-total, total-filter f test xs)

pub total-enumerate : {X : Type 0} (f : X → ℕ) (number : ℕ) (xs : List X) → total (λ e. f e.1) (enumerate_from number xs) ≡ total f xs
total-enumerate f number [] = refl
total-enumerate f number (x ∷ xs) = let rest = total-enumerate f (number + 1) xs in omega arith

pub total-zip : {X Y : Type 0} (f : X → ℕ) (xs : List X) (ys : List Y) → total (λ pair. f pair.0) (zip xs ys) ≤ total f xs
total-zip f [] ys = omega arith
total-zip f (x ∷ xs) [] = omega arith
total-zip f (x ∷ xs) (y ∷ ys) = let rest = total-zip f xs ys in omega arith

pub total-within : {X : Type 0} (f g : X → ℕ) (xs : List X) → All (λ x. f x ≤ g x) xs → total f xs ≤ total g xs
total-within f g [] less = omega arith
total-within f g (x ∷ xs) less =
    grind (arith, All-head, All-tail, total-within f g xs (All-tail (λ x. f x ≤ g x) x xs less))

pub total-less : {X : Type 0} (f g : X → ℕ) → ((x : X) → f x ≤ g x) → (xs : List X) → total f xs ≤ total g xs
total-less f g less xs = total-within f g xs (λ k d within. less _)

pub total-same : {X : Type 0} (f g : X → ℕ) → ((x : X) → f x ≡ g x) → (xs : List X) → total f xs ≡ total g xs
total-same f g same [] = refl
total-same f g same (x ∷ xs) = grind arith

pub total-zero : {X : Type 0} (xs : List X) → total (λ (x : X). 0) xs ≡ 0
total-zero [] = refl
total-zero (x ∷ xs) = let rest = total-zero xs in omega arith

pub total-plus : {X : Type 0} (f g : X → ℕ) (xs : List X) → total (λ x. f x + g x) xs ≡ total f xs + total g xs
total-plus f g [] = refl
total-plus f g (x ∷ xs) = let rest = total-plus f g xs in omega arith

-- of a table, by rows or by columns
pub total-swap : {X Y : Type 0} (f : X → Y → ℕ) (xs : List X) (ys : List Y) → total (λ x. total (f x) ys) xs ≡ total (λ y. total (λ x. f x y) xs) ys
total-swap f [] ys = sym (total-zero ys)
total-swap f (x ∷ xs) ys =
    let rest = total-swap f xs ys in
    let sum = total-plus (f x) (λ y. total (λ x. f x y) xs) ys in
    omega arith
