-- Elements in a row that are changed.
use Rattle.std.proofs.Common.{◌≡◌, ℕ, zero, suc, ◌+◌, ◌-◌, ◌<◌, ◌≤◌, List, [], ◌∷◌, length, refl, sym, ap, ◌∙◌, inl, inr, arith}
use Rattle.std.specs.Prelude.{◌≢◌, Some, slice_get}
use Rattle.std.proofs.lemmas.Bool.{cases_order}
use Rattle.hc_records.specs.Lists.{changed_at}
use Rattle.hc_owed.specs.declared.area.JudgedArea.{JudgedArea}
use Rattle.hc_owed.specs.declared.area.Turn.{Turn}
use Rattle.hc_owed.specs.Areas.{area_after}
use Rattle.hc_owed.specs.ReadinessSteps.{changed_from}
use Rattle.hc_owed.proofs.AreaPlaces.{changed-by}
use Rattle.hc_plan.proofs.lemmas.Replaced.{length-changed}

pub get-applied : {X : Type 0} (n : ℕ) (f : X → X) (x : X) (xs : List X) → slice_get xs n ≡ Some x → slice_get (changed_at n f xs) n ≡ Some (f x)
get-applied n f x [] at = cc
get-applied {X} zero f x (y ∷ xs) at = let same : y ≡ x = cc in ap (λ (z : X). Some (f z)) same
get-applied (suc n) f x (y ∷ xs) at = get-applied n f x xs at

pub get-unapplied : {X : Type 0} (n i : ℕ) (f : X → X) (xs : List X) → n ≢ i → slice_get (changed_at n f xs) i ≡ slice_get xs i
get-unapplied n i f [] apart = refl
get-unapplied zero zero f (y ∷ xs) apart = absurd (apart refl)
get-unapplied zero (suc i) f (y ∷ xs) apart = refl
get-unapplied (suc n) zero f (y ∷ xs) apart = refl
get-unapplied (suc n) (suc i) f (y ∷ xs) apart = get-unapplied n i f xs (λ same. apart (ap suc same))

pub length-changed-from : {X : Type 0} (f : X → X) (from count : ℕ) (xs : List X) → length (changed_from f from count xs) ≡ length xs
length-changed-from f from zero xs = refl
length-changed-from f from (suc count) xs = length-changed (from + count) f (changed_from f from count xs) ∙ length-changed-from f from count xs

-- outside the row nothing changes
pub get-outside : {X : Type 0} (f : X → X) (from count : ℕ) (xs : List X) (n : ℕ) → ((from ≤ n) × (n < from + count) → ⊥) → slice_get (changed_from f from count xs) n ≡ slice_get xs n
get-outside f from zero xs n out = refl
get-outside f from (suc count) xs n out =
    get-unapplied (from + count) n f (changed_from f from count xs) (λ same. out (omega (arith, same), omega (arith, same)))
    ∙ get-outside f from count xs n (λ inside. out (inside.0, let high = inside.1 in omega (arith, high)))

-- inside it each element changes once
pub get-inside : {X : Type 0} (f : X → X) (from count : ℕ) (xs : List X) (n : ℕ) (x : X) → from ≤ n → n < from + count → slice_get xs n ≡ Some x → slice_get (changed_from f from count xs) n ≡ Some (f x)
get-inside f from zero xs n x low high at = absurd (omega (arith, low, high))
get-inside {X} f from (suc count) xs n x low high at = elim (cases_order n (from + count)) [
  | inl same ↦
      ap (slice_get (changed_at (from + count) f (changed_from f from count xs))) same
      ∙ get-applied (from + count) f x (changed_from f from count xs)
      (ap (slice_get (changed_from f from count xs)) (sym same) ∙ get-outside f from count xs n (λ inside. let below = inside.1 in absurd (omega (arith, below, same))) ∙ at)
  | inr (inl less) ↦
      get-unapplied (from + count) n f (changed_from f from count xs) (λ same. absurd (omega (arith, less, same))) ∙ get-inside f from count xs n x low less at
  | inr (inr more) ↦ absurd (omega (arith, more, high))
]

-- one more
pub turn-more : (turn : Turn) (from n : ℕ) (old now : List JudgedArea) (area : JudgedArea) → from ≤ n → now ≡ changed_from (area_after turn) from (n - from) old → slice_get now n ≡ Some area
    → changed_at n (λ _. area_after turn area) now ≡ changed_from (area_after turn) from (n + 1 - from) old
turn-more turn from n old now area low is at =
    let next : n + 1 - from ≡ suc (n - from) = omega (arith, low) in
    let place : from + (n - from) ≡ n = omega (arith, low) in
    changed-by (area_after turn) now n area at ∙ ap (changed_at n (area_after turn)) is
    ∙ ap (λ (k : ℕ). changed_at k (area_after turn) (changed_from (area_after turn) from (n - from) old)) (sym place)
    ∙ ap (λ (k : ℕ). changed_from (area_after turn) from k old) (sym next)
