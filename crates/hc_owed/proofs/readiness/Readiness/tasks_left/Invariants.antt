use Rattle.std.proofs.Common.{◌≡◌, ℕ, ◌+◌, ◌-◌, ◌*◌, ◌<◌, ◌||◌}
use Rattle.std.specs.List.{list_any, range_with_len}
use Rattle.hc_owed.specs.ChangedTasks.{leaves_task, own_at}
use Rattle.hc_owed.specs.TaskSets.{has_task}
use Rattle.hc_owed.proofs.readiness.Readiness.tasks_left.Given as goal

-- the tasks so far, and those of the areas that are left, are all
abbrev pub invariant-loop-n : goal.invariant-loop-n
invariant-loop-n l =
    (task : ℕ) → task < 8
    → (has_task task l.set || list_any (λ i. has_task task (own_at l.self i)) (range_with_len l.n (8 * (l.fn.gone.rank - 1) + 8 * l.fn.gone.slaves - l.n))) ≡ leaves_task l.self l.fn.gone task
