-- A set of the numbers seen, and the numbers still to come.
use Rattle.std.proofs.Common.{◌≡◌, ℕ, ◌||◌, ◌==◌, Bool, true, false, cond, List, [], ◌∷◌, refl, ap, ◌∙◌, arith}
use Rattle.std.specs.List.{list_any}
use Rattle.std.specs.Ordering.{nat_cmp}
use Rattle.std.specs.BTreeMap.{is_at}
use Rattle.std.proofs.lemmas.Bool.Decides.{nat_tests}
use Rattle.std.proofs.lemmas.Grind.{common_steps}
use Rattle.hc_records.specs.Lists.{has_repeat}
use Rattle.hc_records.proofs.lemmas.Choices.{moved}

-- where nothing was seen, nothing comes again
pub none_seen : (seen : ℕ → Bool) (numbers : List ℕ) → ((q : ℕ) → seen q ≡ false) → list_any seen numbers ≡ false
none_seen seen [] none = refl
none_seen seen (n ∷ numbers) none = rw (none n) (none_seen seen numbers none)

-- a number that was seen comes again
pub seen_again : (seen : ℕ → Bool) (n : ℕ) (numbers : List ℕ) → seen n ≡ true
    → (list_any seen (n ∷ numbers) || has_repeat (n ∷ numbers)) ≡ true
seen_again seen n numbers before = rw before refl

-- the set after one more number says that number and those it reported before
answer_given : (test was : Bool) → cond test true was ≡ (was || test)
answer_given test was = grind (arith, common_steps)

same_test : (n q : ℕ) → is_at (nat_cmp n) q ≡ (q == n)
same_test n q = grind (arith, nat_tests)

-- so those to come meet the new set where they met the old one, or that number
met : (seen now : ℕ → Bool) (n : ℕ) (numbers : List ℕ) → ((q : ℕ) → now q ≡ (seen q || (q == n)))
    → list_any now numbers ≡ (list_any seen numbers || list_any (λ q. q == n) numbers)
met seen now n [] one_more = refl
met seen now n (q ∷ numbers) one_more = grind (arith, common_steps, met seen now n numbers)

-- one more number is seen, which wasn't before
pub seen_more : (seen now : ℕ → Bool) (n : ℕ) (numbers : List ℕ)
    → ((q : ℕ) → now q ≡ cond (is_at (nat_cmp n) q) true (seen q)) → seen n ≡ false
    → (list_any seen (n ∷ numbers) || has_repeat (n ∷ numbers)) ≡ (list_any now numbers || has_repeat numbers)
seen_more seen now n numbers updated new =
    rw (new, met seen now n numbers (λ q. updated q ∙ answer_given (is_at (nat_cmp n) q) (seen q) ∙ ap (λ b. seen q || b) (same_test n q)))
    (moved (list_any seen numbers) (list_any (λ q. q == n) numbers) (has_repeat numbers))
