-- Numbers without a seat, one after another.
use Rattle.std.proofs.Common.{◌≡◌, ℕ, zero, suc, ◌+◌, List, [], ◌∷◌, ◌++◌, ap, refl, arith}
use Rattle.std.specs.Prelude.{replicate}

pub replicate-one-more : {X : Type 0} (x : X) (n : ℕ) → replicate n x ++ x ∷ [] ≡ replicate (n + 1) x
replicate-one-more x zero = refl
replicate-one-more x (suc n) = let more : suc n + 1 ≡ suc (n + 1) = omega arith in rw more (ap (λ (l : List _). x ∷ l) (replicate-one-more x n))
