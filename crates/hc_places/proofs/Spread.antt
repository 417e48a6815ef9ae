-- In a list whose numbers ascend, the last is as far above the first as there are others.
use Rattle.std.proofs.Common.{◌≡◌, ℕ, zero, suc, ◌+◌, ◌-◌, ◌<◌, ◌≤◌, List, length, ap, arith}
use Rattle.std.specs.Prelude.{AllPairs, Some, slice_get, slice_index_or}
use Rattle.std.proofs.lemmas.Option.{get_or_from_slice_get, slice_get_within}
use Rattle.std.proofs.lemmas.Grind.{common_steps}

from-first : {X : Type 0} (number : X → ℕ) (xs : List X) (i : ℕ) (d : X) → AllPairs (λ a b. number a < number b) xs → i < length xs
    → number (slice_index_or xs 0 d) + i ≤ number (slice_index_or xs i d)
from-first number xs zero d ascend within = grind (arith, common_steps)
from-first number xs (suc i) d ascend within = grind (arith, common_steps, from-first number xs i d ascend)

pub first-to-last : {X : Type 0} (number : X → ℕ) (xs : List X) (first last : X) → AllPairs (λ a b. number a < number b) xs
    → slice_get xs 0 ≡ Some first → slice_get xs (length xs - 1) ≡ Some last → (0 < length xs) × (number first + length xs ≤ number last + 1)
first-to-last number xs first last ascend front back =
    let some = slice_get_within xs 0 first front in
    let far = from-first number xs (length xs - 1) first ascend (omega (arith, some)) in
    let lowest = ap number (get_or_from_slice_get xs 0 first first front) in
    let highest = ap number (get_or_from_slice_get xs (length xs - 1) last first back) in
    (some, omega (arith, some, far, lowest, highest))
