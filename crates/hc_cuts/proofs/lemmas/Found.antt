-- What a search by halves of an ordered list finds.
use Rattle.std.proofs.Common.{◌≡◌, ℕ, zero, suc, Bool, true, false, List, [], ◌∷◌, refl, arith, if◌then◌else◌}
use Rattle.std.specs.Prelude.{All, AllPairs, Option, Some, None, find, slice_get, slice_index_or, option_and_then}
use Rattle.std.specs.List.Sorted.{IsPartitionPoint}
use Rattle.std.proofs.lemmas.List.Elements.{All-head, All-tail}
use Rattle.hc_records.proofs.lemmas.Lists.{AllPairs-head, AllPairs-tail}

-- nothing is found where no element passes
pub find-none : {X : Type 0} (test : X → Bool) (xs : List X) → All (λ x. test x ≡ false) xs → find test xs ≡ None
find-none test [] all = refl
find-none test (x ∷ xs) all = rw (All-head (λ x. test x ≡ false) x xs all) (find-none test xs (All-tail (λ x. test x ≡ false) x xs all))

-- an element, where it passes a test
abbrev pub unchanged : {X : Type 0} → (X → Bool) → X → Option X
unchanged test x = if test x then Some x else None

module _ {X : Type 0} (before same : X → Bool) (R : X → X → Type 0)
    (apart : (x : X) → before x ≡ true → same x ≡ false)
    (after_it : (x y : X) → R x y → before x ≡ false → same x ≡ false → same y ≡ false) where
  here : (passes : Bool) (x : X) (xs : List X) → same x ≡ passes → before x ≡ false → All (R x) xs → find same (x ∷ xs) ≡ unchanged same x
  here true x xs test reached later = rw test refl
  here false x xs test reached later =
      rw test (find-none same xs (λ k d within. after_it x (slice_index_or xs k d) (later k d within) reached test))

  -- in an ordered list, the first element that isn't before a query is what is found, if it is the same as the query
  pub find-reached : (xs : List X) (i : ℕ) → AllPairs R xs → IsPartitionPoint (λ x. before x ≡ true) (λ x. before x ≡ false) xs i
      → find same xs ≡ option_and_then (unchanged same) (slice_get xs i)
  find-reached [] i pairs parts = refl
  find-reached (x ∷ xs) zero pairs parts = here (same x) x xs refl (parts.1 0 x (omega arith) (omega arith)) (AllPairs-head R x xs pairs)
  find-reached (x ∷ xs) (suc i) pairs parts =
      rw (apart x (parts.0 0 x (omega arith) (omega arith)))
      (find-reached xs i (AllPairs-tail R x xs pairs)
      ((λ k d low high. parts.0 (suc k) d (omega arith) (omega arith)), (λ k d low high. parts.1 (suc k) d (omega arith) (omega arith))))
