use Rattle.std.proofs.Common.{◌≡◌, ◌<◌, ◌≤◌, ℕ, cond}
use Rattle.std.specs.Prelude.{slice_index}
use Rattle.hc_owed.specs.TaskSets.{has_task}
use Rattle.hc_core.proofs.changed.raise_epochs.Given as goal

-- the changed tasks before the present one have the new epoch, and every other task has its own
abbrev pub invariant-loop-task : goal.invariant-loop-task
invariant-loop-task l =
    ((t : ℕ) → t < 8 → t < l.task → slice_index l.epochs t ≡ cond (has_task t l.changed) l.epoch (slice_index l.fn.epochs t))
    × ((t : ℕ) → t < 8 → l.task ≤ t → slice_index l.epochs t ≡ slice_index l.fn.epochs t)
