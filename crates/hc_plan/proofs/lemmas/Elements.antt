-- Elements of lists that are joined, mapped, filtered and numbered, and tests that some element passes.
use Rattle.std.proofs.Common.{◌≡◌, ℕ, zero, suc, ◌+◌, ◌-◌, ◌<◌, ◌≤◌, ◌⊎◌, ◌∙◌, inl, inr, Bool, true, false, cond, List, [], ◌∷◌, length, refl, sym, ap, subst, arith}
use Rattle.std.specs.Prelude.{◌||◌, All, AllPairs, Contains, Some, filter, map, slice_get, slice_index_or}
use Rattle.std.specs.List.{enumerate_from, flat_map, list_any}
use Rattle.std.proofs.lemmas.Bool.{cases_order}
use Rattle.std.proofs.lemmas.List.Elements.{All-contains, All-contains_itself, All-filter, All-head, All-tail, Contains-append_left, Contains-append_right, at_from_Contains, filter_passes}
use Rattle.std.proofs.lemmas.List.Folds.{list_any_at}
use Rattle.std.proofs.lemmas.List.Kept.{AllPairs-cons}
use Rattle.std.proofs.lemmas.Grind.{common_steps}
use Rattle.hc_records.proofs.lemmas.Lists.{All-enumerate_from, All-flat_map, AllPairs-append, AllPairs-head, AllPairs-nil, AllPairs-tail}
use Rattle.hc_records.proofs.lemmas.Choices.{contains-first, contains-later}

joined-at : {X Y : Type 0} (f : X → List Y) (xs : List X) (k : ℕ) (x : X) (y : Y) → k < length xs → slice_index_or xs k x ≡ x → Contains (f x) y → Contains (flat_map f xs) y
joined-at f [] k x y low is has = absurd (omega arith)
joined-at f (z ∷ xs) zero x y low is has = Contains-append_left (f z) (flat_map f xs) y (subst (λ w. Contains (f w) y) (sym is) has)
joined-at f (z ∷ xs) (suc k) x y low is has = Contains-append_right (f z) (flat_map f xs) y (joined-at f xs k x y (omega arith) is has)

-- an element of a piece is one of all pieces joined
pub contains-joined : {X Y : Type 0} (f : X → List Y) (xs : List X) (x : X) (y : Y) → Contains xs x → Contains (f x) y → Contains (flat_map f xs) y
contains-joined f xs x y (k, low, is) has = joined-at f xs k x y low is has

mapped-at : {X Y : Type 0} (f : X → Y) (xs : List X) (k : ℕ) (x : X) → k < length xs → slice_index_or xs k x ≡ x → Contains (map f xs) (f x)
mapped-at f [] k x low is = absurd (omega arith)
mapped-at f (z ∷ xs) zero x low is = subst (λ w. Contains (f w ∷ map f xs) (f x)) (sym is) (contains-first (f x) (map f xs))
mapped-at f (z ∷ xs) (suc k) x low is = contains-later (f z) (f x) (map f xs) (mapped-at f xs k x (omega arith) is)

-- an element of a list, as the mapped list has it
pub contains-mapped : {X Y : Type 0} (f : X → Y) (xs : List X) (x : X) → Contains xs x → Contains (map f xs) (f x)
contains-mapped f xs x (k, low, is) = mapped-at f xs k x low is

unmapped-at : {X Y : Type 0} (f : X → Y) (xs : List X) (k : ℕ) (y : Y) → k < length (map f xs) → slice_index_or (map f xs) k y ≡ y → (x : X) × Contains xs x × (f x ≡ y)
unmapped-at f [] k y low is = absurd (omega arith)
unmapped-at f (z ∷ xs) zero y low is = (z, contains-first z xs, is)
unmapped-at f (z ∷ xs) (suc k) y low is =
    let later = unmapped-at f xs k y (omega arith) is in
    (later.0, contains-later z later.0 xs later.1, later.2)

-- and back
pub contains-unmapped : {X Y : Type 0} (f : X → Y) (xs : List X) (y : Y) → Contains (map f xs) y → (x : X) × Contains xs x × (f x ≡ y)
contains-unmapped f xs y (k, low, is) = unmapped-at f xs k y low is

unchanged-first : {X : Type 0} (passes : Bool) (x : X) (unchanged : List X) → passes ≡ true → Contains (cond passes (x ∷ unchanged) unchanged) x
unchanged-first true x unchanged is = contains-first x unchanged
unchanged-first false x unchanged is = cc

unchanged-later : {X : Type 0} (passes : Bool) (first x : X) (unchanged : List X) → Contains unchanged x → Contains (cond passes (first ∷ unchanged) unchanged) x
unchanged-later true first x unchanged has = contains-later first x unchanged has
unchanged-later false first x unchanged has = has

unchanged-at : {X : Type 0} (test : X → Bool) (xs : List X) (k : ℕ) (x : X) → k < length xs → slice_index_or xs k x ≡ x → test x ≡ true → Contains (filter test xs) x
unchanged-at test [] k x low is passes = absurd (omega arith)
unchanged-at test (z ∷ xs) zero x low is passes =
    subst (λ w. Contains (cond (test z) (z ∷ filter test xs) (filter test xs)) w) is (unchanged-first (test z) z (filter test xs) (ap test is ∙ passes))
unchanged-at test (z ∷ xs) (suc k) x low is passes = unchanged-later (test z) z x (filter test xs) (unchanged-at test xs k x (omega arith) is passes)

-- an element that passes is kept
pub contains-unchanged : {X : Type 0} (test : X → Bool) (xs : List X) (x : X) → Contains xs x → test x ≡ true → Contains (filter test xs) x
contains-unchanged test xs x (k, low, is) passes = unchanged-at test xs k x low is passes

-- an element at an index, as the numbered list has it
pub contains-numbered : {X : Type 0} (n index : ℕ) (xs : List X) (x : X) → slice_get xs index ≡ Some x → Contains (enumerate_from n xs) (n + index, x)
contains-numbered n index [] x is = cc
contains-numbered n zero (z ∷ xs) x is =
    let same : z ≡ x = cc in
    let number : n ≡ n + 0 = omega arith in
    subst (λ w. Contains ((n, z) ∷ enumerate_from (n + 1) xs) (n + 0, w)) same
    (subst (λ m. Contains ((n, z) ∷ enumerate_from (n + 1) xs) (m, z)) number (contains-first (n, z) (enumerate_from (n + 1) xs)))
contains-numbered n (suc index) (z ∷ xs) x is =
    let number : n + 1 + index ≡ n + suc index = omega arith in
    contains-later (n, z) (n + suc index, x) (enumerate_from (n + 1) xs)
    (subst (λ m. Contains (enumerate_from (n + 1) xs) (m, x)) number (contains-numbered (n + 1) index xs x is))

-- and back: each number is the element's index
pub numbered-at : {X : Type 0} (n : ℕ) (xs : List X) → All (λ e. (n ≤ e.0) × (slice_get xs (e.0 - n) ≡ Some e.1)) (enumerate_from n xs)
numbered-at n [] = grind (arith, common_steps)
numbered-at n (x ∷ xs) = grind (arith, common_steps, numbered-at (n + 1) xs)

-- two elements of a list are one, or one is before the other
pub contains-order : {X : Type 0} (R : X → X → Type 0) (xs : List X) (x y : X) → AllPairs R xs → Contains xs x → Contains xs y → (x ≡ y) ⊎ (R x y ⊎ R y x)
contains-order R xs x y pairs has has' =
    let a = at_from_Contains xs x has in
    let b = at_from_Contains xs y has' in
    elim (cases_order a.0 b.0) [
      | inl same ↦ inl (sym (a.2 x) ∙ ap (λ n. slice_index_or xs n x) same ∙ b.2 x)
      | inr (inl lower) ↦ inr (inl (subst (λ u. R u y) (a.2 x) (subst (λ v. R (slice_index_or xs a.0 x) v) (b.2 x) (pairs a.0 b.0 x lower b.1))))
      | inr (inr higher) ↦ inr (inr (subst (λ u. R u x) (b.2 x) (subst (λ v. R (slice_index_or xs b.0 x) v) (a.2 x) (pairs b.0 a.0 x higher a.1))))
    ]

-- elements of pieces are related throughout if those of one piece are, and those of two
pub AllPairs-joined : {X Y : Type 0} (R : Y → Y → Type 0) (f : X → List Y) (xs : List X) → All (λ x. AllPairs R (f x)) xs
    → AllPairs (λ x y. All (λ a. All (R a) (f y)) (f x)) xs → AllPairs R (flat_map f xs)
AllPairs-joined R f [] each across = AllPairs-nil R
AllPairs-joined R f (x ∷ xs) each across =
    AllPairs-append R (f x) (flat_map f xs) (All-head (λ z. AllPairs R (f z)) x xs each)
    (AllPairs-joined R f xs (All-tail (λ z. AllPairs R (f z)) x xs each) (AllPairs-tail (λ z y. All (λ a. All (R a) (f y)) (f z)) x xs across))
    (λ k d within. All-flat_map (R (slice_index_or (f x) k d)) f xs
    (λ j e low. AllPairs-head (λ z y. All (λ a. All (R a) (f y)) (f z)) x xs across j e low k d within))

-- the elements of a numbered list are related as those of the list
pub AllPairs-numbered : {X : Type 0} (R : X → X → Type 0) (n : ℕ) (xs : List X) → AllPairs R xs → AllPairs (λ a b. R a.1 b.1) (enumerate_from n xs)
AllPairs-numbered R n [] pairs = AllPairs-nil (λ a b. R a.1 b.1)
AllPairs-numbered R n (x ∷ xs) pairs =
    AllPairs-cons (λ a b. R a.1 b.1) (n, x) (enumerate_from (n + 1) xs) (All-enumerate_from (R x) (n + 1) xs (AllPairs-head R x xs pairs))
    (AllPairs-numbered R (n + 1) xs (AllPairs-tail R x xs pairs))

pub contains-unkept : {X : Type 0} (test : X → Bool) (xs : List X) (x : X) → Contains (filter test xs) x → Contains xs x × (test x ≡ true)
contains-unkept test xs x has =
    (All-contains (Contains xs) (filter test xs) x (All-filter test (Contains xs) xs (All-contains_itself xs)) has, All-contains (λ y. test y ≡ true) (filter test xs) x (filter_passes test xs) has)

-- tests that some element passes

true-any : (a b : Bool) → (a || b) ≡ true → (a ≡ true) ⊎ (b ≡ true)
true-any true b is = inl refl
true-any false b is = inr is

pub some-passes : {X : Type 0} (test : X → Bool) (xs : List X) (x : X) → Contains xs x → test x ≡ true → list_any test xs ≡ true
some-passes test xs x (k, low, is) passes = list_any_at test xs k x low (ap test is ∙ passes)

pub which-passes : {X : Type 0} (test : X → Bool) (xs : List X) → list_any test xs ≡ true → (x : X) × Contains xs x × (test x ≡ true)
which-passes test [] is = cc
which-passes test (z ∷ xs) is = elim (true-any (test z) (list_any test xs) is) [
  | inl here ↦ (z, contains-first z xs, here)
  | inr there ↦ let later = which-passes test xs there in (later.0, contains-later z later.0 xs later.1, later.2)
]
