-- Cursors of the tasks of a line.
use Rattle.std.specs.Prelude.{ℕ, ◌<◌, List, slice_index_or}
use Rattle.hc_records.specs.declared.limits.TheConstants.{TASKS}
use Rattle.hc_cuts.specs.declared.cursor.Cursor.{Cursor}
use Rattle.hc_cuts.specs.Cursors.{IsCursorOf}
use Rattle.hc_cuts.specs.Starts.{TaskCuts}

-- each task has a cursor that is in it; the lists are as long as there are tasks, so no other value stands for one
abbrev pub AreInTasks : List TaskCuts → List Cursor → Type 0
AreInTasks tasks cursors =
    (task : ℕ) (other : TaskCuts) (cursor : Cursor) → task < TASKS
    → IsCursorOf (slice_index_or tasks task other).starts (slice_index_or tasks task other).tree.list (slice_index_or cursors task cursor)
