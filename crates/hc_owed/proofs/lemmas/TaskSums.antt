-- The tasks of sets that are joined, beside tests of what is still to be joined.
use Rattle.std.proofs.Common.{◌≡◌, ℕ, ◌<◌, ◌==◌, ◌&&◌, ◌||◌, Bool, true, false, refl, ap, ◌∙◌, Some}
use Rattle.std.specs.Option.{option_map_or}
use Rattle.hc_owed.specs.declared.task_set.TaskSet.{TaskSet}
use Rattle.std.proofs.lemmas.Nat.Bits.{bit_at_above}
use Rattle.hc_bits.specs.Bits.{number_of}
use Rattle.hc_owed.specs.TaskSets.{either_set, has_task, no_task, only_task, some_task, tasks_where}
use Rattle.hc_owed.proofs.TaskLists.{has-where, set-is}

pub none-set : (t : ℕ) → t < 8 → has_task t no_task ≡ false
none-set t low = has-where (λ task. false) t low

pub none-any : (t : ℕ) (b : Bool) → t < 8 → (set : TaskSet) → set ≡ no_task → (has_task t set || b) ≡ b
none-any t b low set is = ap (λ (s : TaskSet). has_task t s || b) is ∙ ap (λ (a : Bool). a || b) (none-set t low)

pub either-has : (t : ℕ) (a b : TaskSet) (set : TaskSet) → t < 8 → set ≡ either_set a b → has_task t set ≡ (has_task t a || has_task t b)
either-has t a b set low is = ap (has_task t) is ∙ has-where (λ task. has_task task a || has_task task b) t low

-- a set with one more, and what is left
pub more-any : (t : ℕ) (a b : TaskSet) (set : TaskSet) (one rest : Bool) → t < 8 → set ≡ either_set a b → has_task t b ≡ one → (has_task t set || rest) ≡ (has_task t a || (one || rest))
more-any t a b set one rest low is same =
    ap (λ (c : Bool). c || rest) (either-has t a b set low is ∙ ap (λ (c : Bool). has_task t a || c) same) ∙ joined (has_task t a) one rest
  where
    joined : (x y z : Bool) → ((x || y) || z) ≡ (x || (y || z))
    joined true y z = refl
    joined false y z = refl

pub whole-any : (t : ℕ) (set : TaskSet) → has_task t set ≡ (has_task t set || false)
whole-any t set = by (has_task t set)
  where
    by : (b : Bool) → b ≡ (b || false)
    by true = refl
    by false = refl

-- a set with one task more
pub with-any : (t task : ℕ) (a set : TaskSet) (rest : Bool) → t < 8 → set ≡ tasks_where (λ other. has_task other a || (true && (task == other))) → (has_task t set || rest) ≡ (has_task t a || ((task == t) || rest))
with-any t task a set rest low is =
    ap (λ (c : Bool). c || rest) (ap (has_task t) is ∙ has-where (λ other. has_task other a || (task == other)) t low) ∙ joined (has_task t a) (task == t) rest
  where
    joined : (x y z : Bool) → ((x || y) || z) ≡ (x || (y || z))
    joined true y z = refl
    joined false y z = refl

-- one task alone, and none
pub only-has : (t task : ℕ) (set : TaskSet) → t < 8 → set ≡ only_task (Some task) → has_task t set ≡ (task == t)
only-has t task set low is = ap (has_task t) is ∙ has-where (λ other. option_map_or (λ one. one == other) (Some task) false) t low

pub none-has : (t : ℕ) (set : TaskSet) → t < 8 → set ≡ no_task → has_task t set ≡ false
none-has t set low is = ap (has_task t) is ∙ none-set t low

-- a set without a task is empty
pub empty-set : (set : TaskSet) → set.bits < 256 → ((t : ℕ) → t < 8 → has_task t set ≡ false) → some_task set ≡ false
unfolding has_task some_task tasks_where number_of
empty-set set low none = ap some_task (set-is set.bits (λ task. false) none (λ k high. bit_at_above set.bits 8 k low high))
