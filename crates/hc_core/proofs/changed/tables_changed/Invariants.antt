use Rattle.std.proofs.Common.{◌≡◌, ℕ, ◌<◌, ◌==◌, ◌||◌, drop}
use Rattle.std.specs.List.{list_any}
use Rattle.hc_places.specs.Swap.{ChangedTask}
use Rattle.hc_owed.specs.TaskSets.{has_task}
use Rattle.hc_core.specs.Changed.{has_table}
use Rattle.hc_core.proofs.changed.tables_changed.Given as goal

-- the tasks so far, and those that are left, are all
abbrev pub invariant-loop-changed : goal.invariant-loop-changed
invariant-loop-changed l =
    (task : ℕ) → task < 8 → (has_task task l.set || list_any (λ (one : ChangedTask). one.0 == task) (drop l.changed-index l.tasks)) ≡ has_table l.swap.change task
