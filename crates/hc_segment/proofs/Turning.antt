-- A list that is turned: what stays in front, what comes in its place, and what stays after.
use Rattle.std.proofs.Common.{◌≡◌, ◌≤◌, ◌+◌, ◌-◌, ℕ, List, [], ◌∷◌, ◌++◌, length, min, take, drop, ap, ap₂, ◌∙◌, arith, append_assoc, length-drop}
use Rattle.std.proofs.Math.Seq.{take-append_seam, take-append-add, drop-append_seam}
use Rattle.std.proofs.lemmas.Grind.{common_steps}

-- a place after the end is the end
take-within : (xs : List (List ℕ)) (n : ℕ) → take (min n (length xs)) xs ≡ take n xs
take-within xs n = grind (arith, common_steps)

drop-within : (xs : List (List ℕ)) (n : ℕ) → drop (min n (length xs)) xs ≡ drop n xs
drop-within xs n = grind (arith, common_steps)

turned-at : (ms coming one two three four : List (List ℕ)) (front back after_it : ℕ) → front ≤ back → back ≤ length ms → after_it ≡ length ms - back
    → one ≡ drop back ms ++ take back ms
    → two ≡ take (after_it + front) one
    → three ≡ two ++ coming
    → four ≡ drop after_it three ++ take after_it three
    → four ≡ take front ms ++ (coming ++ drop back ms)
turned-at ms coming one two three four front back after_it ordered within count first second third fourth = grind (arith, common_steps, append_assoc, take-append_seam, take-append-add, length-drop, drop-append_seam)

pub turned : (ms coming one two three four : List (List ℕ)) (position gone front back after_it : ℕ) → front ≡ min position (length ms) → back ≡ min (position + gone) (length ms) → after_it ≡ length ms - back
    → one ≡ drop back ms ++ take back ms
    → two ≡ take (after_it + front) one
    → three ≡ two ++ coming
    → four ≡ drop after_it three ++ take after_it three
    → four ≡ take position ms ++ (coming ++ drop (position + gone) ms)
turned ms coming one two three four position gone front back after_it from to count first second third fourth =
    turned-at ms coming one two three four front back after_it (omega (arith, from, to)) (omega (arith, to)) count first second third fourth
    ∙ ap₂ (λ (a b : ℕ). take a ms ++ (coming ++ drop b ms)) from to
    ∙ ap₂ (λ (a b : List (List ℕ)). a ++ (coming ++ b)) (take-within ms position) (drop-within ms (position + gone))
