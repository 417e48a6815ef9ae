-- An element of a list written where it is.
use Rattle.std.proofs.Common.{◌≡◌, ℕ, zero, suc, ◌<◌, ◌≤◌, List, [], ◌∷◌, length, refl, ap, ◌∙◌, arith}
use Rattle.std.specs.Prelude.{slice_index_or, slice_set}
use Rattle.hc_records.specs.Lists.{changed_at}

-- where there is none, nothing changes
pub changed-outside : {X : Type 0} (i : ℕ) (change : X → X) (xs : List X) → length xs ≤ i → changed_at i change xs ≡ xs
changed-outside i change [] out = refl
changed-outside zero change (x ∷ xs) out = absurd (omega arith)
changed-outside (suc i) change (x ∷ xs) out = ap (λ rest. x ∷ rest) (changed-outside i change xs (omega arith))

-- writing what a change makes of it is the change
pub changed-set : {X : Type 0} (i : ℕ) (change : X → X) (xs : List X) (x y : X) → i < length xs → x ≡ slice_index_or xs i x → y ≡ change x →
    slice_set xs i y ≡ changed_at i change xs
changed-set i change [] x y within at is = absurd (omega arith)
changed-set zero change (first ∷ xs) x y within at is = ap (λ z. z ∷ xs) (is ∙ ap change at)
changed-set (suc i) change (first ∷ xs) x y within at is = ap (λ rest. first ∷ rest) (changed-set i change xs x y (omega arith) at is)
