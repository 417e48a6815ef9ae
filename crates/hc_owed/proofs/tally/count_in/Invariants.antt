use Rattle.std.proofs.Common.{◌≡◌, ◌<◌, ℕ, ◌+◌, ◌≤◌}
use Rattle.std.specs.Prelude.{slice_index}
use Rattle.hc_owed.specs.Flags.{one}
use Rattle.hc_owed.specs.TaskSets.{has_task}
use Rattle.hc_owed.proofs.tally.count_in.Given as goal

-- the tasks before the present one are counted, the others are as they were
abbrev pub invariant-loop-task : goal.invariant-loop-task
invariant-loop-task l =
    ((t : ℕ) → t < 8 → t < l.task → slice_index l.counts t ≡ slice_index l.fn.counts t + one (has_task t l.set))
    × ((t : ℕ) → t < 8 → l.task ≤ t → slice_index l.counts t ≡ slice_index l.fn.counts t)
