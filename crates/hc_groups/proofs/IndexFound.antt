-- What is found where one element at most passes a test, and what a search by halves finds.
use Rattle.std.proofs.Common.{◌≡◌, ◌≢◌, ℕ, zero, suc, ◌<◌, ◌≤◌, ◌==◌, ◌||◌, Bool, true, false, cond, List, [], ◌∷◌, length, get_or, Some, None, refl, sym, ap, subst, ◌∙◌, arith, rules}
use Rattle.std.specs.Prelude.{All, AllPairs, Contains, find, nat_lt, map, position, slice_get}
use Rattle.std.specs.List.{list_any, position_or_len}
use Rattle.std.specs.List.Sorted.{IsNonDecreasingBy, IsPartitionPoint}
use Rattle.std.proofs.lemmas.Bool.Decides.{nat_tests}
use Rattle.std.proofs.lemmas.Bool.{le-ltb, lt-ltb, ltb-false, ltb-true}
use Rattle.std.proofs.lemmas.List.{get_or-map, get_or_default, length-map}
use Rattle.std.proofs.lemmas.List.Elements.{All-head, All-tail, Contains-get_or}
use Rattle.std.proofs.lemmas.List.Folds.{find_at}
use Rattle.std.proofs.lemmas.List.Sums.{position_or_len_is}
use Rattle.std.proofs.lemmas.Option.{get_or_from_slice_get, slice_get-get_or, slice_get_past, slice_get_within}

pub differs : (a query : ℕ) → a ≢ query → (a == query) ≡ false
differs a query other = grind (arith, nat_tests)

pub differs-after_it : (a b query : ℕ) → a ≢ b → (b == query) ≡ true → (a == query) ≡ false
differs-after_it a b query other is = grind (arith, nat_tests)

module _ {X : Type 0} (p : X → Bool) where
  -- the one that passes, where no earlier one does if a later one does
  pub first-at : (xs : List X) (i : ℕ) (x : X) → AllPairs (λ a b. p b ≡ true → p a ≡ false) xs → slice_get xs i ≡ Some x → p x ≡ true → position_or_len p xs ≡ i
  first-at xs i x alone at passes =
      let within = slice_get_within xs i x at in
      let is : p (get_or xs i x) ≡ true = ap p (get_or_from_slice_get xs i x x at) ∙ passes in
      position_or_len_is p xs i x (omega arith) (λ k low. alone k i x low within is) (λ low. is)

  pub position-at : (xs : List X) (i : ℕ) (x : X) → AllPairs (λ a b. p b ≡ true → p a ≡ false) xs → slice_get xs i ≡ Some x → p x ≡ true → position p xs ≡ Some i
  position-at xs i x alone at passes = search (rules, first-at, lt-ltb, slice_get_within)

  -- and where none does

  none-passes : (xs : List X) (d : X) → All (λ x. p x ≡ false) xs → position_or_len p xs ≡ length xs
  none-passes xs d none = position_or_len_is p xs (length xs) d (omega arith) (λ k low. none k d low) (λ low. absurd (omega arith))

  pub position-none : (xs : List X) → All (λ x. p x ≡ false) xs → position p xs ≡ None
  position-none [] none = refl
  position-none (x ∷ xs) none = search (rules, none-passes, le-ltb)

-- a place where there is nothing is past the end

history-by : {X : Type 0} (xs : List X) (place : ℕ) (d : X) (inside : Bool) → nat_lt place (length xs) ≡ inside → slice_get xs place ≡ None → length xs ≤ place
history-by xs place d true is none = let some = slice_get-get_or xs place d (ltb-true place (length xs) is) in cc
history-by xs place d false is none = ltb-false place (length xs) is

pub history-end : {X : Type 0} (xs : List X) (place : ℕ) → slice_get xs place ≡ None → length xs ≤ place
history-end [] place none = omega arith
history-end (x ∷ xs) place none = history-by (x ∷ xs) place x (nat_lt place (length (x ∷ xs))) refl none

-- elements in the order of a number; those before a place have a lower number than a query
module _ {X : Type 0} (number : X → ℕ) (query : ℕ) (xs : List X) (place : ℕ)
    (parts : IsPartitionPoint (λ x. nat_lt (number x) query ≡ true) (λ x. nat_lt (number x) query ≡ false) xs place) (rises : IsNonDecreasingBy number xs) where
  in-front : (k : ℕ) (d : X) → k < place → number (get_or xs k d) ≢ query
  in-front k d low same = let below = ltb-true (number (get_or xs k d)) query (parts.0 k d (omega arith) low) in omega (arith, same)

  -- none has the query's where the list ends there

  after_it : (x : X) → slice_get xs place ≡ Some x → number x ≢ query → (k : ℕ) (d : X) → place ≤ k → k < length xs → number (get_or xs k d) ≢ query
  after_it x at other k d low within same = search (rules, get_or_from_slice_get, ltb-false, slice_get_within)

  by-place : (x : X) → slice_get xs place ≡ Some x → number x ≢ query → (k : ℕ) (d : X) (front : Bool) → nat_lt k place ≡ front → k < length xs → number (get_or xs k d) ≢ query
  by-place x at other k d true is within = in-front k d (ltb-true k place is)
  by-place x at other k d false is within = after_it x at other k d (ltb-false k place is) within

  -- or the one there has another
  pub none-else : (x : X) → slice_get xs place ≡ Some x → number x ≢ query → All (λ x. number x ≢ query) xs
  none-else x at other k d within = by-place x at other k d (nat_lt k place) refl within

-- two elements of a list that have one number are one, where no two places have one

same-place : {X : Type 0} (xs : List X) (i j : ℕ) (a b : X) → i ≡ j → i < length xs → get_or xs i a ≡ a → get_or xs j b ≡ b → a ≡ b
same-place xs i j a b same within first second = search (rules, get_or_default)

apart : {X : Type 0} (number : X → ℕ) (xs : List X) (i j : ℕ) (a b : X) → AllPairs (λ x y. number x ≢ number y) xs → i < j → j < length xs → get_or xs i a ≡ a → get_or xs j b ≡ b → number a ≢ number b
apart number xs i j a b distinct low within first second same =
    distinct i j a low within
    (ap number first ∙ same ∙ sym (ap number (get_or_default xs j a b within ∙ second)))

one-by : {X : Type 0} (number : X → ℕ) (xs : List X) (i j : ℕ) (a b : X) (before after_it : Bool) → nat_lt i j ≡ before → nat_lt j i ≡ after_it → AllPairs (λ x y. number x ≢ number y) xs
    → i < length xs → j < length xs → get_or xs i a ≡ a → get_or xs j b ≡ b → number a ≡ number b → a ≡ b
one-by number xs i j a b true after_it is other distinct within inside first second same = absurd (apart number xs i j a b distinct (ltb-true i j is) inside first second same)
one-by number xs i j a b false true is other distinct within inside first second same = absurd (apart number xs j i b a distinct (ltb-true j i other) within second first (sym same))
one-by number xs i j a b false false is other distinct within inside first second same = search (rules, ltb-false, same-place)

pub only-one : {X : Type 0} (number : X → ℕ) (xs : List X) (a b : X) → AllPairs (λ x y. number x ≢ number y) xs → Contains xs a → Contains xs b → number a ≡ number b → a ≡ b
only-one number xs a b distinct first second same =
    one-by number xs first.0 second.0 a b (nat_lt first.0 second.0) (nat_lt second.0 first.0) refl refl distinct first.1 second.1 first.2 second.2 same

pub contains-map : {X Y : Type 0} (f : X → Y) (xs : List X) → All (λ x. Contains (map f xs) (f x)) xs
contains-map f xs k d within =
    let long : k < length (map f xs) = let same = length-map xs f in omega (arith, same) in
    subst (Contains (map f xs)) (get_or-map f xs k d (f d) within) (Contains-get_or (map f xs) k (f d) long)

-- whether one of a list passes a test

pub any-none : {X : Type 0} (p : X → Bool) (xs : List X) → All (λ x. p x ≡ false) xs → list_any p xs ≡ false
any-none p [] none = refl
any-none p (x ∷ xs) none = search (rules, All-head, All-tail, any-none p xs (All-tail (λ x. p x ≡ false) x xs none))

any-else : (a b : Bool) → b ≡ true → (a || b) ≡ true
any-else a b is = search rules

pub any-some : {X : Type 0} (p : X → Bool) (xs : List X) (k : ℕ) (d : X) → k < length xs → p (get_or xs k d) ≡ true → list_any p xs ≡ true
any-some p [] k d low is = absurd (omega arith)
any-some p (x ∷ xs) zero d low is = ap (λ (here : Bool). here || list_any p xs) is
any-some p (x ∷ xs) (suc k) d low is = any-else (p x) (list_any p xs) (any-some p xs k d (omega arith) is)

-- the element at the first place

found-by : {X : Type 0} (p : X → Bool) (xs : List X) (i : ℕ) (inside : Bool) → nat_lt (position_or_len p xs) (length xs) ≡ inside
    → cond inside (Some (position_or_len p xs)) None ≡ Some i → find p xs ≡ slice_get xs i
found-by p xs i inside is at = search (rules, find_at)

pub find-position : {X : Type 0} (p : X → Bool) (xs : List X) (i : ℕ) → position p xs ≡ Some i → find p xs ≡ slice_get xs i
find-position p xs i at = found-by p xs i (nat_lt (position_or_len p xs) (length xs)) refl at

absent-by : {X : Type 0} (p : X → Bool) (xs : List X) (inside : Bool) → nat_lt (position_or_len p xs) (length xs) ≡ inside
    → cond inside (Some (position_or_len p xs)) None ≡ None → find p xs ≡ None
absent-by p xs inside is none = search (rules, find_at, slice_get_past, ltb-false)

pub find-none : {X : Type 0} (p : X → Bool) (xs : List X) → position p xs ≡ None → find p xs ≡ None
find-none p xs none = absent-by p xs (nat_lt (position_or_len p xs) (length xs)) refl none
