-- Properties of the elements, or of each element and each later one, of lists that are joined, mapped, numbered or taken apart.
use Rattle.std.proofs.Common.{◌≡◌, ℕ, ◌+◌, ◌<◌, ◌≤◌, zero, suc, ◌-◌, ◌∙◌, Bool, true, false, cond, List, [], ◌∷◌, ◌++◌, length, ap, arith, refl, sym, if◌then◌else◌}
use Rattle.std.specs.Prelude.{All, AllPairs, None, Some, filter, map, slice_get, ◌==◌, ◌≢◌}
use Rattle.std.specs.List.{enumerate_from, flat_map, list_any}
use Rattle.std.proofs.lemmas.Bool.{eqb-false, or_parts}
use Rattle.std.proofs.lemmas.List.Elements.{All-nil, All-cons, All-head, All-tail, All-append, All-weaker, All-filter, All-map, filter_passes}
use Rattle.std.proofs.lemmas.List.Kept.{AllPairs-cons}
use Rattle.std.proofs.lemmas.Grind.{common_steps}
use Rattle.hc_records.specs.Lists.{has_repeat, lowest, some_pair}

pub All-append_left : {X : Type 0} (P : X → Type 0) (xs ys : List X) → All P (xs ++ ys) → All P xs
All-append_left P [] ys all = All-nil P
All-append_left P (x ∷ xs) ys all = All-cons P x xs (All-head P x (xs ++ ys) all) (All-append_left P xs ys (All-tail P x (xs ++ ys) all))

pub All-append_right : {X : Type 0} (P : X → Type 0) (xs ys : List X) → All P (xs ++ ys) → All P ys
All-append_right P [] ys all = all
All-append_right P (x ∷ xs) ys all = All-append_right P xs ys (All-tail P x (xs ++ ys) all)

-- the elements of all pieces
pub All-flat_map : {X Y : Type 0} (P : Y → Type 0) (f : X → List Y) (xs : List X) → All (λ x. All P (f x)) xs → All P (flat_map f xs)
All-flat_map P f [] all = All-nil P
All-flat_map P f (x ∷ xs) all =
    All-append P (f x) (flat_map f xs) (All-head (λ x. All P (f x)) x xs all) (All-flat_map P f xs (All-tail (λ x. All P (f x)) x xs all))

filtered-parts : (passes : Bool) {X : Type 0} (P : X → Type 0) (x : X) (rest : List X) → All P (cond passes (x ∷ rest) rest) → (passes ≡ true → P x) × All P rest
filtered-parts true P x rest all = (λ yes. All-head P x rest all, All-tail P x rest all)
filtered-parts false P x rest all = (λ yes. cc, all)

-- the elements that a filter keeps pass its test
pub All-passing : {X : Type 0} (P : X → Type 0) (test : X → Bool) (xs : List X) → All (λ x. test x ≡ true → P x) xs → All P (filter test xs)
All-passing P test xs all k d within = All-filter test (λ x. test x ≡ true → P x) xs all k d within (filter_passes test xs k d within)

-- and what holds of those holds of each element that passes
pub All-from_filter : {X : Type 0} (P : X → Type 0) (test : X → Bool) (xs : List X) → All P (filter test xs) → All (λ x. test x ≡ true → P x) xs
All-from_filter P test [] all = All-nil (λ x. test x ≡ true → P x)
All-from_filter P test (x ∷ xs) all =
    let parts = filtered-parts (test x) P x (filter test xs) all in
    All-cons (λ x. test x ≡ true → P x) x xs parts.0 (All-from_filter P test xs parts.1)

-- no element passes a test that isn't passed by any
pub All-from_none : {X : Type 0} (test : X → Bool) (xs : List X) → list_any test xs ≡ false → All (λ x. test x ≡ false) xs
All-from_none test xs none = grind (arith, common_steps)

pub All-unmap : {X Y : Type 0} (P : Y → Type 0) (f : X → Y) (xs : List X) → All P (map f xs) → All (λ x. P (f x)) xs
All-unmap P f [] all = All-nil (λ x. P (f x))
All-unmap P f (x ∷ xs) all = All-cons (λ x. P (f x)) x xs (All-head P (f x) (map f xs) all) (All-unmap P f xs (All-tail P (f x) (map f xs) all))

-- the elements of a numbered list
pub All-enumerate_from : {X : Type 0} (P : X → Type 0) (number : ℕ) (xs : List X) → All P xs → All (λ e. P e.1) (enumerate_from number xs)
All-enumerate_from P number [] all = All-nil (λ e. P e.1)
All-enumerate_from P number (x ∷ xs) all =
    All-cons (λ e. P e.1) (number, x) (enumerate_from (number + 1) xs) (All-head P x xs all) (All-enumerate_from P (number + 1) xs (All-tail P x xs all))

-- its numbers
pub All-numbers : {X : Type 0} (number : ℕ) (xs : List X) → All (λ e. (number ≤ e.0) × (e.0 < number + length xs)) (enumerate_from number xs)
All-numbers number [] = grind (arith, common_steps)
All-numbers number (x ∷ xs) = grind (arith, common_steps, All-numbers (number + 1) xs)

pub AllPairs-nil : {X : Type 0} (R : X → X → Type 0) → AllPairs R []
AllPairs-nil R i j d lower within = absurd (omega arith)

pub AllPairs-head : {X : Type 0} (R : X → X → Type 0) (x : X) (xs : List X) → AllPairs R (x ∷ xs) → All (R x) xs
AllPairs-head R x xs pairs k d within = pairs 0 (suc k) d (omega arith) (omega arith)

pub AllPairs-tail : {X : Type 0} (R : X → X → Type 0) (x : X) (xs : List X) → AllPairs R (x ∷ xs) → AllPairs R xs
AllPairs-tail R x xs pairs i j d lower within = pairs (suc i) (suc j) d (omega arith) (omega arith)

pub AllPairs-append : {X : Type 0} (R : X → X → Type 0) (xs ys : List X) → AllPairs R xs → AllPairs R ys → All (λ x. All (R x) ys) xs → AllPairs R (xs ++ ys)
AllPairs-append R xs ys first second across = grind (arith, common_steps)

pub AllPairs-across : {X : Type 0} (R : X → X → Type 0) (xs : List X) (y : X) (ys : List X) → AllPairs R (xs ++ y ∷ ys) → All (λ x. R x y) xs
AllPairs-across R [] y ys pairs = All-nil (λ x. R x y)
AllPairs-across R (x ∷ xs) y ys pairs =
    All-cons (λ x. R x y) x xs (All-head (R x) y ys (All-append_right (R x) xs (y ∷ ys) (AllPairs-head R x (xs ++ y ∷ ys) pairs)))
    (AllPairs-across R xs y ys (AllPairs-tail R x (xs ++ y ∷ ys) pairs))

pub AllPairs-append_right : {X : Type 0} (R : X → X → Type 0) (xs ys : List X) → AllPairs R (xs ++ ys) → AllPairs R ys
AllPairs-append_right R [] ys pairs = pairs
AllPairs-append_right R (x ∷ xs) ys pairs = AllPairs-append_right R xs ys (AllPairs-tail R x (xs ++ ys) pairs)

pub AllPairs-map : {X Y : Type 0} (R : Y → Y → Type 0) (f : X → Y) (xs : List X) → AllPairs (λ x y. R (f x) (f y)) xs → AllPairs R (map f xs)
AllPairs-map R f [] pairs = AllPairs-nil R
AllPairs-map R f (x ∷ xs) pairs =
    AllPairs-cons R (f x) (map f xs) (All-map (R (f x)) f xs (AllPairs-head (λ x y. R (f x) (f y)) x xs pairs))
    (AllPairs-map R f xs (AllPairs-tail (λ x y. R (f x) (f y)) x xs pairs))

pub AllPairs-weaker : {X : Type 0} (R S : X → X → Type 0) → ((x y : X) → R x y → S x y) → (xs : List X) → AllPairs R xs → AllPairs S xs
AllPairs-weaker R S weaker xs pairs i j d lower within = weaker _ _ (pairs i j d lower within)

-- the pieces of related elements are related throughout
pub AllPairs-flat_map : {X Y : Type 0} (R : Y → Y → Type 0) (S : X → X → Type 0) (f : X → List Y) → ((x : X) → AllPairs R (f x)) →
    ((x y : X) → S x y → All (λ a. All (R a) (f y)) (f x)) → (xs : List X) → AllPairs S xs → AllPairs R (flat_map f xs)
AllPairs-flat_map R S f each across [] pairs = AllPairs-nil R
AllPairs-flat_map R S f each across (x ∷ xs) pairs =
    AllPairs-append R (f x) (flat_map f xs) (each x) (AllPairs-flat_map R S f each across xs (AllPairs-tail S x xs pairs))
    (λ k d within. All-flat_map (R _) f xs
    (All-weaker (S x) (λ y. All (R _) (f y)) (λ y related. across x y related k d within) xs (AllPairs-head S x xs pairs)))

pub AllPairs-numbers : {X : Type 0} (number : ℕ) (xs : List X) → AllPairs (λ a b. a.0 < b.0) (enumerate_from number xs)
AllPairs-numbers number [] = AllPairs-nil (λ a b. a.0 < b.0)
AllPairs-numbers number (x ∷ xs) =
    AllPairs-cons (λ a b. a.0 < b.0) (number, x) (enumerate_from (number + 1) xs)
    (All-weaker (λ e. (number + 1 ≤ e.0) × (e.0 < number + 1 + length xs)) (λ e. number < e.0) (λ e within. omega arith) (enumerate_from (number + 1) xs) (All-numbers (number + 1) xs))
    (AllPairs-numbers (number + 1) xs)

pub AllPairs-append_left : {X : Type 0} (R : X → X → Type 0) (xs ys : List X) → AllPairs R (xs ++ ys) → AllPairs R xs
AllPairs-append_left R [] ys pairs = AllPairs-nil R
AllPairs-append_left R (x ∷ xs) ys pairs =
    AllPairs-cons R x xs (All-append_left (R x) xs ys (AllPairs-head R x (xs ++ ys) pairs)) (AllPairs-append_left R xs ys (AllPairs-tail R x (xs ++ ys) pairs))

-- each element of the first list with each of the second
pub AllPairs-between : {X : Type 0} (R : X → X → Type 0) (xs ys : List X) → AllPairs R (xs ++ ys) → All (λ x. All (R x) ys) xs
AllPairs-between R [] ys pairs = All-nil (λ x. All (R x) ys)
AllPairs-between R (x ∷ xs) ys pairs =
    All-cons (λ x. All (R x) ys) x xs (All-append_right (R x) xs ys (AllPairs-head R x (xs ++ ys) pairs))
    (AllPairs-between R xs ys (AllPairs-tail R x (xs ++ ys) pairs))

pub AllPairs-unmap : {X Y : Type 0} (R : Y → Y → Type 0) (f : X → Y) (xs : List X) → AllPairs R (map f xs) → AllPairs (λ x y. R (f x) (f y)) xs
AllPairs-unmap R f [] pairs = AllPairs-nil (λ x y. R (f x) (f y))
AllPairs-unmap R f (x ∷ xs) pairs =
    AllPairs-cons (λ x y. R (f x) (f y)) x xs (All-unmap (R (f x)) f xs (AllPairs-head R (f x) (map f xs) pairs))
    (AllPairs-unmap R f xs (AllPairs-tail R (f x) (map f xs) pairs))

-- no two elements are so related
pub AllPairs-from_none : {X : Type 0} (related : X → X → Bool) (xs : List X) → some_pair related xs ≡ false → AllPairs (λ x y. related x y ≡ false) xs
AllPairs-from_none related [] none = AllPairs-nil (λ x y. related x y ≡ false)
AllPairs-from_none related (x ∷ xs) none =
    let parts = or_parts (list_any (related x) xs) (some_pair related xs) none in
    AllPairs-cons (λ x y. related x y ≡ false) x xs (All-from_none (related x) xs parts.0) (AllPairs-from_none related xs parts.1)

-- numbers that occur once each differ
pub AllPairs-from_once : (xs : List ℕ) → has_repeat xs ≡ false → AllPairs (λ x y. x ≢ y) xs
AllPairs-from_once xs once =
    AllPairs-weaker (λ x y. (y == x) ≡ false) (λ x y. x ≢ y) (λ x y differ same. eqb-false y x differ (sym same)) xs
    (AllPairs-from_none (λ x y. y == x) xs once)

-- a filter keeps no more elements than there are

unchanged-few : {X : Type 0} (passes : Bool) (x : X) (unchanged xs : List X) → length unchanged ≤ length xs → length (cond passes (x ∷ unchanged) unchanged) ≤ suc (length xs)
unchanged-few true x unchanged xs few = omega arith
unchanged-few false x unchanged xs few = omega arith

pub filter-few : {X : Type 0} (test : X → Bool) (xs : List X) → length (filter test xs) ≤ length xs
filter-few test [] = omega arith
filter-few test (x ∷ xs) = unchanged-few (test x) x (filter test xs) xs (filter-few test xs)

-- what is at an index of joined lists

pub get-front : {X : Type 0} (xs ys : List X) (n : ℕ) → n < length xs → slice_get (xs ++ ys) n ≡ slice_get xs n
get-front [] ys n inside = absurd (omega arith)
get-front (x ∷ xs) ys zero inside = refl
get-front (x ∷ xs) ys (suc n) inside = get-front xs ys n (omega arith)

pub get-back : {X : Type 0} (xs ys : List X) (n : ℕ) → length xs ≤ n → slice_get (xs ++ ys) n ≡ slice_get ys (n - length xs)
get-back [] ys n history = ap (λ (k : ℕ). slice_get ys k) (omega arith)
get-back (x ∷ xs) ys zero history = absurd (omega arith)
get-back (x ∷ xs) ys (suc n) history = get-back xs ys n (omega arith) ∙ ap (slice_get ys) (omega arith)

-- where there is no lowest fault, none of the conditions holds

none-first : {F : Type 0} (judged : Bool) (fault : F) (rest : List (Bool × F)) → (if judged then Some fault else lowest rest) ≡ None → (judged ≡ false) × (lowest rest ≡ None)
none-first true fault rest none = cc
none-first false fault rest none = (refl, none)

pub none-holds : {F : Type 0} (faults : List (Bool × F)) → lowest faults ≡ None → All (λ judged. judged.0 ≡ false) faults
none-holds [] none = All-nil (λ judged. judged.0 ≡ false)
none-holds (judged ∷ rest) none =
    let both = none-first judged.0 judged.1 rest none in
    All-cons (λ judged. judged.0 ≡ false) judged rest both.0 (none-holds rest both.1)
