use Rattle.std.proofs.Common.{◌≡◌, ℕ, ◌<◌, ◌||◌, drop}
use Rattle.std.specs.List.{list_any}
use Rattle.hc_owed.specs.TaskSets.{has_task}
use Rattle.hc_core.specs.Changed.{has_place, row_lies}
use Rattle.hc_core.proofs.changed.places_changed.Given as goal

-- the tasks so far, and those of the variables that are left, are all
abbrev pub invariant-loop-changed : goal.invariant-loop-changed
invariant-loop-changed l =
    (task : ℕ) → task < 8 → (has_task task l.set || list_any (row_lies l.places task) (drop l.changed-index l.rows)) ≡ has_place l.places l.swap.change task
