-- The number that digits spell.
use Rattle.std.proofs.Common.{◌≡◌, ℕ, suc, ◌+◌, ◌*◌, ◌≤◌, ◌<◌, nat_le, List, [], ◌∷◌, length, get_or, drop, drop-cons, cond, refl, arith, Some, None, Bool, true, false}
use Rattle.std.proofs.Math.Nat.{mul-le-mul_left}
use Rattle.std.proofs.lemmas.Bool.Decides.{nat_tests}
use Rattle.std.proofs.lemmas.Grind.{common_steps}
use borrow.Author.Tests.{leb-false}
use Rattle.hc_text.specs.Numbers.{digit_of, spelt_number, spelt_within}

-- more digits never make less
spelt_grows : (base n : ℕ) (digits : List ℕ) → 1 ≤ base → n ≤ spelt_number base n digits
spelt_grows base n [] low = omega arith
spelt_grows base n (b ∷ bs) low =
    let more : n * base + digit_of b ≤ spelt_number base (n * base + digit_of b) bs = spelt_grows base (n * base + digit_of b) bs low in
    let grows : n * 1 ≤ n * base = mul-le-mul_left n low in
    omega arith

goes_on : (base most n b : ℕ) (bs : List ℕ) → digit_of b < base → spelt_within base most n (b ∷ bs) ≡ spelt_within base most (n * base + digit_of b) bs
goes_on base most n b bs small = grind (arith, nat_tests, common_steps)

overflows : (base most n : ℕ) (bs : List ℕ) → 1 ≤ base → most < n → spelt_within base most n bs ≡ None
overflows base most n bs low large =
    let grows : n ≤ spelt_number base n bs = spelt_grows base n bs low in
    grind (arith, nat_tests, common_steps, grows)

above : (b : Bool) (n : ℕ) → None ≡ cond b (Some n) None → b ≡ false
above true n e = cc
above false n e = refl

-- a digit too many: no number
pub too_many : (base most n : ℕ) (digits : List ℕ) (i : ℕ) → 1 ≤ base → i < length digits
    → None ≡ cond (nat_le (n * base + digit_of (get_or digits i 0)) most) (Some (n * base + digit_of (get_or digits i 0))) None
    → digit_of (get_or digits i 0) < base → spelt_within base most n (drop i digits) ≡ None
too_many base most n digits i low within none small =
    let large : most < n * base + digit_of (get_or digits i 0) = leb-false _ _ (above _ _ none) in
    rw (drop-cons digits i 0, goes_on base most n (get_or digits i 0) (drop (suc i) digits) small) (overflows base most _ (drop (suc i) digits) low large)
