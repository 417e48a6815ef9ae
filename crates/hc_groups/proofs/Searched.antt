-- Whether a number is one of numbers that rise, by a search among them.
use Rattle.std.proofs.Common.{◌≡◌, ◌≢◌, ℕ, ◌<◌, ◌≤◌, ◌==◌, ◌∙◌, Bool, true, false, List, length, get_or, refl, sym, arith}
use Rattle.std.specs.Prelude.{Result, Ok, Err, is_ok, nat_lt}
use Rattle.std.specs.List.{list_any}
use Rattle.std.specs.List.Sorted.{IsBinarySearchResult, IsNonDecreasing}
use Rattle.std.specs.Ordering.{nat_cmp}
use Rattle.std.specs.Result.{MatchResult}
use Rattle.std.proofs.lemmas.Bool.{eq-eqb, ltb-false, ltb-true}
use Rattle.std.proofs.lemmas.List.{get_or_default}
use Rattle.std.proofs.lemmas.List.Folds.{list_any_at, list_any_none}
use Rattle.std.proofs.lemmas.List.Sorted.{searched}
use Rattle.hc_groups.proofs.IndexFound.{differs}

-- it lies at a place, or else those before a place are lower and the others higher
abbrev Lies : List ℕ → ℕ → Result ℕ ℕ → Type 0
Lies xs x found =
    MatchResult found (λ i. (i < length xs) × (get_or xs i 0 ≡ x))
    (λ i. (i ≤ length xs) × ((k : ℕ) → k < i → get_or xs k 0 < x) × ((k : ℕ) → i ≤ k → k < length xs → x < get_or xs k 0))

apart : (xs : List ℕ) (x i k : ℕ) (front : Bool) → nat_lt k i ≡ front → ((k : ℕ) → k < i → get_or xs k 0 < x) → ((k : ℕ) → i ≤ k → k < length xs → x < get_or xs k 0) → k < length xs → get_or xs k 0 ≢ x
apart xs x i k true is low high within same = let less = low k (ltb-true k i is) in omega (arith, less, same)
apart xs x i k false is low high within same = let more = high k (ltb-false k i is) within in omega (arith, more, same)

lies-any : (xs : List ℕ) (x : ℕ) (found : Result ℕ ℕ) → Lies xs x found → is_ok found ≡ list_any (λ other. other == x) xs
lies-any xs x (Ok i) at = sym (list_any_at (λ other. other == x) xs i 0 at.0 (eq-eqb (get_or xs i 0) x at.1))
lies-any xs x (Err i) none =
    sym (list_any_none (λ other. other == x) xs
    (λ k d within.
    differs (get_or xs k d) x
    (λ same. apart xs x i k (nat_lt k i) refl none.1 none.2 within (get_or_default xs k 0 d within ∙ same))))

pub searched-any : (xs : List ℕ) (x : ℕ) (found : Result ℕ ℕ) → IsBinarySearchResult (λ y. nat_cmp y x) xs found → IsNonDecreasing xs → is_ok found ≡ list_any (λ other. other == x) xs
searched-any xs x found is rises = lies-any xs x found (searched xs x found is (λ i j low within. rises i j 0 low within))
