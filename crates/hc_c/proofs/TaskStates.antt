-- The state of a task by its datagrams: how many have data of the last sending.
use Rattle.std.proofs.Common.{◌≡◌, ℕ, zero, suc, ◌+◌, ◌<◌, ◌≤◌, ◌==◌, ◌∙◌, Bool, true, false, cond, inl, inr, map, refl, sym, ap, arith, Option, Some, None}
use Rattle.std.specs.List.{range_with_len}
use Rattle.std.proofs.lemmas.Bool.{cases_order, eq-eqb, eqb-true, eqb-false, le-leb, leb-true}
use Rattle.hc_records.proofs.lemmas.Choices.{lower-other}
use Rattle.hc_c.specs.States.{count_since, is_since, state_number}
use Rattle.hc_c.specs.declared.states.TheConstants.{COMPLETE, INCOMPLETE, NO_DATA}

-- a datagram has data of a serial or a later one

pub serial-within : (first : ℕ) (found : Option ℕ) → is_since first found ≡ true → (serial : ℕ) × (found ≡ Some serial) × (first ≤ serial)
serial-within first None e = cc
serial-within first (Some serial) e = (serial, refl, leb-true first serial e)

pub within-serial : (first serial : ℕ) (found : Option ℕ) → found ≡ Some serial → first ≤ serial → is_since first found ≡ true
within-serial first serial found e few = ap (is_since first) e ∙ le-leb first serial few

-- so many datagrams do

bit-most : (b : Bool) (m n : ℕ) → m ≤ n → cond b 1 0 + m ≤ suc n
bit-most true m n few = omega arith
bit-most false m n few = omega arith

most : (first : ℕ) (f : ℕ → Option ℕ) (a n : ℕ) → count_since first (map f (range_with_len a n)) ≤ n
most first f a zero = omega arith
most first f a (suc n) = bit-most (is_since first (f a)) (count_since first (map f (range_with_len (a + 1) n))) n (most first f (a + 1) n)

bit-all : (b : Bool) (m n : ℕ) → cond b 1 0 + m ≡ suc n → m ≤ n → (b ≡ true) × (m ≡ n)
bit-all true m n all few = (refl, omega arith)
bit-all false m n all few = absurd (omega arith)

pub all-within : (first : ℕ) (f : ℕ → Option ℕ) (a n d : ℕ) → count_since first (map f (range_with_len a n)) ≡ n → a ≤ d → d < a + n → is_since first (f d) ≡ true
all-within first f a zero d all low high = absurd (omega arith)
all-within first f a (suc n) d all low high =
    let parts = bit-all (is_since first (f a)) (count_since first (map f (range_with_len (a + 1) n))) n all (most first f (a + 1) n) in
    elim (cases_order a d) [
      | inl same ↦ ap (λ (k : ℕ). is_since first (f k)) (sym same) ∙ parts.0
      | inr (inl lower) ↦ all-within first f (a + 1) n d parts.1 (omega (arith, lower)) (omega (arith, high))
      | inr (inr higher) ↦ absurd (omega (arith, low, higher))
    ]

bit-full : (b : Bool) (m n : ℕ) → b ≡ true → m ≡ n → cond b 1 0 + m ≡ suc n
bit-full true m n is same = omega arith
bit-full false m n is same = cc

pub all-from : (first : ℕ) (f : ℕ → Option ℕ) (a n : ℕ) → ((d : ℕ) → a ≤ d → d < a + n → is_since first (f d) ≡ true) → count_since first (map f (range_with_len a n)) ≡ n
all-from first f a zero each = refl
all-from first f a (suc n) each =
    bit-full (is_since first (f a)) (count_since first (map f (range_with_len (a + 1) n))) n (each a (omega arith) (omega arith))
    (all-from first f (a + 1) n (λ d low high. each d (omega (arith, low)) (omega (arith, high))))

-- none does

bit-none : (b : Bool) (m : ℕ) → cond b 1 0 + m ≡ 0 → (b ≡ false) × (m ≡ 0)
bit-none true m none = absurd (omega arith)
bit-none false m none = (refl, omega arith)

pub none-within : (first : ℕ) (f : ℕ → Option ℕ) (a n d : ℕ) → count_since first (map f (range_with_len a n)) ≡ 0 → a ≤ d → d < a + n → is_since first (f d) ≡ false
none-within first f a zero d none low high = absurd (omega arith)
none-within first f a (suc n) d none low high =
    let parts = bit-none (is_since first (f a)) (count_since first (map f (range_with_len (a + 1) n))) none in
    elim (cases_order a d) [
      | inl same ↦ ap (λ (k : ℕ). is_since first (f k)) (sym same) ∙ parts.0
      | inr (inl lower) ↦ none-within first f (a + 1) n d parts.1 (omega (arith, lower)) (omega (arith, high))
      | inr (inr higher) ↦ absurd (omega (arith, low, higher))
    ]

bit-nothing : (b : Bool) (m : ℕ) → b ≡ false → m ≡ 0 → cond b 1 0 + m ≡ 0
bit-nothing true m is same = cc
bit-nothing false m is same = omega (arith, same)

pub none-from : (first : ℕ) (f : ℕ → Option ℕ) (a n : ℕ) → ((d : ℕ) → a ≤ d → d < a + n → is_since first (f d) ≡ false) → count_since first (map f (range_with_len a n)) ≡ 0
none-from first f a zero each = refl
none-from first f a (suc n) each =
    bit-nothing (is_since first (f a)) (count_since first (map f (range_with_len (a + 1) n))) (each a (omega arith) (omega arith))
    (none-from first f (a + 1) n (λ d low high. each d (omega (arith, low)) (omega (arith, high))))

-- the state by both numbers

two-states : (all none : Bool) → cond all COMPLETE (cond none NO_DATA INCOMPLETE) ≡ COMPLETE → all ≡ true
two-states true none e = refl
two-states false true e = absurd (omega (arith, e))
two-states false false e = absurd (omega (arith, e))

pub complete-is : (since all : ℕ) → state_number since all ≡ COMPLETE → since ≡ all
complete-is since all e = eqb-true since all (two-states (since == all) (since == 0) e)

pub complete-from : (since all : ℕ) → since ≡ all → state_number since all ≡ COMPLETE
complete-from since all same = ap (λ b. cond b COMPLETE (cond (since == 0) NO_DATA INCOMPLETE)) (eq-eqb since all same)

no-data-states : (all none : Bool) → cond all COMPLETE (cond none NO_DATA INCOMPLETE) ≡ NO_DATA → (all ≡ false) × (none ≡ true)
no-data-states true none e = absurd (omega (arith, e))
no-data-states false true e = (refl, refl)
no-data-states false false e = absurd (omega (arith, e))

some-there : (since all : ℕ) → since ≡ 0 → (since ≡ all → ⊥) → 0 < all
some-there since zero none other = absurd (other none)
some-there since (suc n) none other = omega arith

pub no-data-is : (since all : ℕ) → state_number since all ≡ NO_DATA → (0 < all) × (since ≡ 0)
no-data-is since all e =
    let both = no-data-states (since == all) (since == 0) e in
    let none = eqb-true since 0 both.1 in
    (some-there since all none (eqb-false since all both.0), none)

pub no-data-from : (since all : ℕ) → 0 < all → since ≡ 0 → state_number since all ≡ NO_DATA
no-data-from since all some none =
    let lower : since < all = omega arith in
    ap (λ b. cond b COMPLETE (cond (since == 0) NO_DATA INCOMPLETE)) (lower-other since all lower)
    ∙ ap (λ b. cond b NO_DATA INCOMPLETE) (eq-eqb since 0 none)

third-state : (all none : Bool) → (cond all COMPLETE (cond none NO_DATA INCOMPLETE) ≡ COMPLETE → ⊥) → (cond all COMPLETE (cond none NO_DATA INCOMPLETE) ≡ NO_DATA → ⊥) → cond all COMPLETE (cond none NO_DATA INCOMPLETE) ≡ INCOMPLETE
third-state true none first second = absurd (first refl)
third-state false true first second = absurd (second refl)
third-state false false first second = refl

pub incomplete-from : (since all : ℕ) → (state_number since all ≡ COMPLETE → ⊥) → (state_number since all ≡ NO_DATA → ⊥) → state_number since all ≡ INCOMPLETE
incomplete-from since all first second = third-state (since == all) (since == 0) first second
