-- Sets of tasks, task by task.
use Rattle.std.proofs.Common.{◌≡◌, ℕ, zero, suc, ◌<◌, ◌≤◌, ◌==◌, Bool, true, false, List, [], ◌∷◌, map, if◌then◌else◌, get_or, ◌⊎◌, inl, inr, refl, sym, ap, ◌∙◌, arith}
use Rattle.std.specs.Int.{bit_at}
use Rattle.std.specs.Prelude.{not}
use Rattle.std.proofs.lemmas.Bool.{cases_lt, eqb-true}
use Rattle.std.proofs.lemmas.Nat.Bits.{bit_at-lt, bit_at-zero, same_from_bits}
use Rattle.hc_bits.proofs.lemmas.Bits.{bit_at-number_of}
use Rattle.hc_records.specs.Image.{tasks}
use Rattle.hc_events.specs.Ready.{mask_of}
use Rattle.hc_owed.specs.declared.task_set.TaskSet.{TaskSet}
use Rattle.hc_owed.specs.TaskSets.{has_task, some_task, tasks_where}

abbrev bit : Bool → ℕ
bit b = if b then 1 else 0

bit-small : (b : Bool) → bit b < 2
bit-small true = omega arith
bit-small false = omega arith

bit-is : (b : Bool) → (bit b == 1) ≡ b
bit-is true = refl
bit-is false = refl

bits-small : (test : ℕ → Bool) (ts : List ℕ) (i : ℕ) → get_or (map (λ (t : ℕ). if test t then 1 else 0) ts) i 0 < 2
bits-small test [] i = omega arith
bits-small test (t ∷ ts) zero = bit-small (test t)
bits-small test (t ∷ ts) (suc i) = bits-small test ts i

bit-at : (test : ℕ → Bool) (k : ℕ) → bit_at (mask_of test) k ≡ get_or (map (λ (t : ℕ). if test t then 1 else 0) tasks) k 0
bit-at test k = bit_at-number_of (map (λ (t : ℕ). if test t then 1 else 0) tasks) k (bits-small test tasks)

get-bit : (test : ℕ → Bool) (k : ℕ) → k < 8 → get_or (map (λ (t : ℕ). if test t then 1 else 0) tasks) k 0 ≡ bit (test k)
get-bit test zero low = refl
get-bit test (suc zero) low = refl
get-bit test (suc (suc zero)) low = refl
get-bit test (suc (suc (suc zero))) low = refl
get-bit test (suc (suc (suc (suc zero)))) low = refl
get-bit test (suc (suc (suc (suc (suc zero))))) low = refl
get-bit test (suc (suc (suc (suc (suc (suc zero)))))) low = refl
get-bit test (suc (suc (suc (suc (suc (suc (suc zero))))))) low = refl
get-bit test (suc (suc (suc (suc (suc (suc (suc (suc n)))))))) low = absurd (omega (arith, low))

-- a task is in the set of those that pass a test exactly if it passes
pub has-where : (test : ℕ → Bool) (task : ℕ) → task < 8 → has_task task (tasks_where test) ≡ test task
unfolding tasks_where has_task
has-where test task low = ap (λ (n : ℕ). n == 1) (bit-at test task ∙ get-bit test task low) ∙ bit-is (test task)

-- two tests that every task passes alike give one set
pub same-where : (f g : ℕ → Bool) → ((task : ℕ) → task < 8 → f task ≡ g task) → tasks_where f ≡ tasks_where g
unfolding tasks_where
same-where f g same = by (same 0 (omega arith)) (same 1 (omega arith)) (same 2 (omega arith)) (same 3 (omega arith)) (same 4 (omega arith)) (same 5 (omega arith)) (same 6 (omega arith)) (same 7 (omega arith))
  where
    by : f 0 ≡ g 0 → f 1 ≡ g 1 → f 2 ≡ g 2 → f 3 ≡ g 3 → f 4 ≡ g 4 → f 5 ≡ g 5 → f 6 ≡ g 6 → f 7 ≡ g 7 → tasks_where f ≡ tasks_where g
    by a b c d e x y z = cc

bit-value : (n : ℕ) (b : Bool) → n < 2 → (n == 1) ≡ b → n ≡ bit b
bit-value zero false low is = refl
bit-value zero true low is = cc
bit-value (suc zero) true low is = refl
bit-value (suc zero) false low is = cc
bit-value (suc (suc n)) b low is = absurd (omega (arith, low))

abbrev set_of : ℕ → TaskSet
set_of n = record { bits = n }

no-bit : (test : ℕ → Bool) (k : ℕ) → 8 ≤ k → ◌≡◌ {A = ℕ} (get_or (map (λ (t : ℕ). if test t then 1 else 0) tasks) k 0) 0
no-bit test zero high = absurd (omega (arith, high))
no-bit test (suc zero) high = absurd (omega (arith, high))
no-bit test (suc (suc zero)) high = absurd (omega (arith, high))
no-bit test (suc (suc (suc zero))) high = absurd (omega (arith, high))
no-bit test (suc (suc (suc (suc zero)))) high = absurd (omega (arith, high))
no-bit test (suc (suc (suc (suc (suc zero))))) high = absurd (omega (arith, high))
no-bit test (suc (suc (suc (suc (suc (suc zero)))))) high = absurd (omega (arith, high))
no-bit test (suc (suc (suc (suc (suc (suc (suc zero))))))) high = absurd (omega (arith, high))
no-bit test (suc (suc (suc (suc (suc (suc (suc (suc n)))))))) high = refl

-- a number whose bits say which tasks pass a test, and that has no others, is the set of these
pub set-is : (bits : ℕ) (test : ℕ → Bool) → ((task : ℕ) → task < 8 → (bit_at bits task == 1) ≡ test task) → ((k : ℕ) → 8 ≤ k → bit_at bits k ≡ 0) → record { bits = bits } ≡ tasks_where test
unfolding tasks_where
set-is bits test same high =
    ap (λ (n : ℕ). set_of n) (same_from_bits bits (mask_of test) (λ task. by task (cases_lt task 8)))
  where
    by : (task : ℕ) → ((task < 8) ⊎ (8 ≤ task)) → bit_at bits task ≡ bit_at (mask_of test) task
    by task (inr above) = high task above ∙ sym (bit-at test task ∙ no-bit test task above)
    by task (inl inside) = bit-value (bit_at bits task) (test task) (bit_at-lt bits task) (same task inside) ∙ sym (bit-at test task ∙ get-bit test task inside)

-- a set whose bits are a number's
pub has-bits : (bits task : ℕ) → has_task task (record { bits = bits }) ≡ (bit_at bits task == 1)
unfolding has_task
has-bits bits task = refl

-- no task is in an empty set
twice : (b : Bool) → not (not b) ≡ b
twice true = refl
twice false = refl

pub none-in-empty : (set : TaskSet) (task : ℕ) → not (some_task set) ≡ true → has_task task set ≡ false
unfolding some_task has_task
none-in-empty set task is = ap (λ (n : ℕ). bit_at n task == 1) (eqb-true set.bits 0 (sym (twice (set.bits == 0)) ∙ is)) ∙ ap (λ (n : ℕ). n == 1) (bit_at-zero task)
