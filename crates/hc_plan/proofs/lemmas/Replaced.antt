-- Lists of a fixed length, read and changed at an index.
use Rattle.std.proofs.Common.{◌≡◌, ℕ, zero, suc, ◌+◌, ◌<◌, ◌≤◌, List, [], ◌∷◌, drop, length, map, ◌⊎◌, inl, inr, refl, ap, ◌∙◌, add-one, arith, rules}
use Rattle.std.specs.Prelude.{◌≢◌, Some, slice_get, slice_index_or, slice_set}
use Rattle.std.proofs.Math.Seq.{drop-cons}
use Rattle.std.proofs.lemmas.Bool.{cases_lt, cases_order}
use Rattle.std.proofs.lemmas.Option.{same_Some}
use Rattle.hc_records.specs.Lists.{changed_at}
use Rattle.hc_plan.specs.RegisterBlocks.{replaced_from}

-- a list that has at each index what a function makes of another's element there
pub is-map : {X Y : Type 0} (xs : List Y) (f : X → Y) (zs : List X) → length xs ≡ length zs → ((n : ℕ) (z : X) → slice_get zs n ≡ Some z → slice_get xs n ≡ Some (f z)) → xs ≡ map f zs
is-map [] f [] size each = refl
is-map [] f (z ∷ zs) size each = absurd (omega (arith, size))
is-map (x ∷ xs) f [] size each = absurd (omega (arith, size))
is-map (x ∷ xs) f (z ∷ zs) size each =
    ap (λ y. y ∷ xs) (same_Some x (f z) (each 0 z refl)) ∙ ap (λ rest. f z ∷ rest) (is-map xs f zs (omega (arith, size)) (λ n y at. each (suc n) y at))

pub length-changed : {X : Type 0} (n : ℕ) (change : X → X) (xs : List X) → length (changed_at n change xs) ≡ length xs
length-changed n change [] = refl
length-changed zero change (x ∷ xs) = refl
length-changed (suc n) change (x ∷ xs) = ap suc (length-changed n change xs)

pub map-set : {X Y : Type 0} (f : X → Y) (n : ℕ) (x : X) (xs : List X) → map f (slice_set xs n x) ≡ changed_at n (λ _. f x) (map f xs)
map-set f n x [] = refl
map-set f zero x (y ∷ xs) = refl
map-set f (suc n) x (y ∷ xs) = ap (λ rest. f y ∷ rest) (map-set f n x xs)

pub set-changed : {X : Type 0} (n : ℕ) (x : X) (xs : List X) → slice_set xs n x ≡ changed_at n (λ _. x) xs
set-changed n x [] = refl
set-changed zero x (y ∷ xs) = refl
set-changed (suc n) x (y ∷ xs) = ap (λ rest. y ∷ rest) (set-changed n x xs)

pub get-changed : {X : Type 0} (n : ℕ) (x : X) (xs : List X) → n < length xs → slice_get (changed_at n (λ _. x) xs) n ≡ Some x
get-changed n x [] low = absurd (omega (arith, low))
get-changed zero x (y ∷ xs) low = refl
get-changed (suc n) x (y ∷ xs) low = get-changed n x xs (omega (arith, low))

pub get-other : {X : Type 0} (n i : ℕ) (x : X) (xs : List X) → n ≢ i → slice_get (changed_at n (λ _. x) xs) i ≡ slice_get xs i
get-other n i x [] apart = refl
get-other zero zero x (y ∷ xs) apart = absurd (apart refl)
get-other zero (suc i) x (y ∷ xs) apart = refl
get-other (suc n) zero x (y ∷ xs) apart = refl
get-other (suc n) (suc i) x (y ∷ xs) apart = get-other n i x xs (λ same. apart (ap suc same))

pub changed-same : {X : Type 0} (n : ℕ) (x : X) (xs : List X) → slice_get xs n ≡ Some x → changed_at n (λ _. x) xs ≡ xs
changed-same n x [] is = cc
changed-same zero x (y ∷ xs) is = let same : x ≡ y = cc in ap (λ z. z ∷ xs) same
changed-same (suc n) x (y ∷ xs) is = ap (λ rest. y ∷ rest) (changed-same n x xs is)

-- elements in a row that are replaced

pub length-filled : {X : Type 0} (from count : ℕ) (x : X) (xs : List X) → length (replaced_from from count x xs) ≡ length xs
length-filled from zero x xs = refl
length-filled from (suc count) x xs = length-changed (from + count) (λ _. x) (replaced_from from count x xs) ∙ length-filled from count x xs

pub get-filled : {X : Type 0} (from count : ℕ) (x : X) (xs : List X) (n : ℕ) → from ≤ n → n < from + count → n < length xs → slice_get (replaced_from from count x xs) n ≡ Some x
get-filled from zero x xs n low high within = absurd (omega (arith, low, high))
get-filled from (suc count) x xs n low high within = elim (cases_order n (from + count)) [
  | inl same ↦
      let size = length-filled from count x xs in
      ap (slice_get (replaced_from from (suc count) x xs)) same ∙ get-changed (from + count) x (replaced_from from count x xs) (omega (arith, same, within, size))
  | inr (inl less) ↦
      get-other (from + count) n x (replaced_from from count x xs) (λ same. absurd (omega (arith, less, same))) ∙ get-filled from count x xs n low less within
  | inr (inr more) ↦ absurd (omega (arith, more, high))
]

pub get-unfilled : {X : Type 0} (from count : ℕ) (x : X) (xs : List X) (n : ℕ) → ((from ≤ n) × (n < from + count) → ⊥) → slice_get (replaced_from from count x xs) n ≡ slice_get xs n
get-unfilled from zero x xs n out = refl
get-unfilled from (suc count) x xs n out =
    search (rules, get-other, get-unfilled from count x xs n (λ inside. out (inside.0, let high = inside.1 in omega (arith, high))))

pub in-or-out : (from count n : ℕ) → ((from ≤ n) × (n < from + count)) ⊎ ((from ≤ n) × (n < from + count) → ⊥)
in-or-out from count n = search (rules, cases_lt)

-- the element at an index, and those after it

pub item-cons : {X : Type 0} (xs : List X) (i : ℕ) (x : X) → i < length xs → x ≡ slice_index_or xs i x → drop i xs ≡ x ∷ drop (i + 1) xs
item-cons xs i x low is = search (rules, drop-cons, add-one)
