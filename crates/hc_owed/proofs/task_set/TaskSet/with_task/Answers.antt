use Rattle.std.proofs.Common.{ℕ, ◌==◌, ◌&&◌, ◌||◌, Bool, false, Some, sym, ap, ◌∙◌}
use Rattle.hc_owed.specs.TaskSets.{either_set, has_task, no_task, only_task}
use Rattle.hc_owed.proofs.TaskLists.{has-where, same-where}
use Rattle.hc_owed.proofs.task_set.TaskSet.with_task.Goals as goal

pub returns-then-added : goal.returns-then-added
returns-then-added c =
    c.with.ensures ∙ ap (either_set c.args.self) c.of.ensures
    ∙ same-where (λ (t : ℕ). has_task t c.args.self || has_task t (only_task (Some c.args.task))) (λ (t : ℕ). has_task t c.args.self || (c.args.added && (c.args.task == t)))
    (λ t low. ap (λ (b : Bool). has_task t c.args.self || b) (has-where (λ (s : ℕ). c.args.task == s) t low ∙ ap (λ (b : Bool). b && (c.args.task == t)) (sym c.if-added.true)))

pub returns-else-added : goal.returns-else-added
returns-else-added c =
    c.with-else-added.ensures ∙ ap (either_set c.args.self) c.none.ensures
    ∙ same-where (λ (t : ℕ). has_task t c.args.self || has_task t no_task) (λ (t : ℕ). has_task t c.args.self || (c.args.added && (c.args.task == t)))
    (λ t low. ap (λ (b : Bool). has_task t c.args.self || b) (has-where (λ (s : ℕ). false) t low ∙ ap (λ (b : Bool). b && (c.args.task == t)) (sym c.if-added.false)))
