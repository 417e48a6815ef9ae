use Rattle.std.proofs.Common.{◌≡◌, ℕ, ◌+◌, ◌==◌, ◌&&◌, ◌||◌, nat_lt, Bool, true, false, refl, sym, ap, ◌∙◌, arith}
use Rattle.std.proofs.lemmas.Bool.{eqb-true, eqb-false, ltb-true, ltb-false, lt-ltb}
use Rattle.std.proofs.lemmas.Bool.Decides.{nat_tests}
use Rattle.hc_owed.specs.declared.task_set.TaskSet.{TaskSet}
use Rattle.hc_owed.specs.Tally.{counts_none}
use Rattle.hc_owed.specs.TaskSets.{has_task}
use Rattle.hc_owed.proofs.TaskLists.{has-where, same-where}
use Rattle.hc_owed.proofs.tally.Tally.free.Goals as goal

below-more : (t task : ℕ) (free own : Bool) → ((task == t) ≡ true → own ≡ free) → ((nat_lt t task && free) || (own && (task == t))) ≡ (nat_lt t (task + 1) && free)
below-more t task free own same = by (task == t) refl (nat_lt t task) refl (nat_lt t (task + 1)) refl
  where
    either : (b : Bool) → (b || false) ≡ b
    either true = refl
    either false = refl

    and-no : (b : Bool) → (b && false) ≡ false
    and-no true = refl
    and-no false = refl

    and-yes : (b : Bool) → (b && true) ≡ b
    and-yes true = refl
    and-yes false = refl

    by : (here : Bool) → (task == t) ≡ here → (less : Bool) → nat_lt t task ≡ less → (more : Bool) → nat_lt t (task + 1) ≡ more → ((less && free) || (own && here)) ≡ (more && free)
    by true is false less true more = and-yes own ∙ same is
    by true is true less more is' = let a = eqb-true task t is in let b = ltb-true t task less in absurd (omega (arith, a, b))
    by true is false less false more = let a = eqb-true task t is in let b = ltb-false t (task + 1) more in absurd (omega (arith, a, b))
    by false is true less true more = ap (λ (b : Bool). free || b) (and-no own) ∙ either free
    by false is false less false more = and-no own
    by false is true less false more = let a = ltb-true t task less in let b = ltb-false t (task + 1) more in absurd (omega (arith, a, b))
    by false is false less true more = let a = eqb-false task t is in let b = ltb-false t task less in let d = ltb-true t (task + 1) more in absurd (a (omega (arith, b, d)))

pub loop-task-init : goal.loop-task-init
loop-task-init c =
    c.none-set.ensures
    ∙ same-where (λ (t : ℕ). false) (λ (t : ℕ). nat_lt t 0 && counts_none c.args.self.now t) (λ t low. let none : nat_lt t 0 ≡ false = grind (arith, nat_tests) in sym (ap (λ (b : Bool). b && counts_none c.args.self.now t) none))

pub loop-task-preserved : goal.loop-task-preserved
loop-task-preserved c =
    let task = c.loop-task.task in
    let free = counts_none c.args.self.now in
    c.with_task-set.ensures
    ∙ same-where (λ (t : ℕ). has_task t c.loop-task.set || (c.is_free.result && (task == t))) (λ (t : ℕ). nat_lt t (task + 1) && free t)
    (λ t low.
    ap (λ (s : TaskSet). has_task t s || (c.is_free.result && (task == t))) c.loop-task.invariant
    ∙ ap (λ (b : Bool). b || (c.is_free.result && (task == t))) (has-where (λ (s : ℕ). nat_lt s task && free s) t low)
    ∙ below-more t task (free t) c.is_free.result (λ same. c.is_free.ensures ∙ ap free (eqb-true task t same)))

pub returns : goal.returns
returns c =
    let free = counts_none c.args.self.now in
    c.loop-task.invariant
    ∙ same-where (λ (t : ℕ). nat_lt t c.loop-task.task && free t) free
    (λ t low. ap (λ (b : Bool). b && free t) (lt-ltb t c.loop-task.task (omega (arith, low, c.loop-task-test.false))))
