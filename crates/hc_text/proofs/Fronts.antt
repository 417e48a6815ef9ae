-- The front of a text.
use Rattle.std.proofs.Common.{◌≡◌, ℕ, zero, suc, ◌+◌, ◌-◌, List, [], ◌∷◌, ◌++◌, length, take, drop, ap, arith, zero-add}
use Rattle.std.proofs.lemmas.List.{take_rest}
use Rattle.std.proofs.lemmas.Grind.{common_steps}

front_and_more : (n k : ℕ) (text : List ℕ) → take k text ++ take n (drop k text) ≡ take (k + n) text
front_and_more n zero text = rw zero-add
front_and_more n (suc k) [] = grind (arith, common_steps)
front_and_more n (suc k) (x ∷ xs) =
    let next : take k xs ++ take n (drop k xs) ≡ take (k + n) xs = front_and_more n k xs in
    let e : suc k + n ≡ suc (k + n) = omega arith in
    rw e (ap (λ l. x ∷ l) next)

-- a front, and a front of the rest as a slice has it
pub front_grows : (text : List ℕ) (k n : ℕ) → take k text ++ take n (take (length text - k) (drop k text)) ≡ take (k + n) text
front_grows text k n = rw (take_rest text k) (front_and_more n k text)
