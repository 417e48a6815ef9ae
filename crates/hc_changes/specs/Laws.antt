-- Laws that follow from the definitions. Each is the contract of a function of `laws`.
use Rattle.std.specs.Prelude.{◌≡◌, ℕ, true, false, List, None}
use Rattle.hc_records.specs.Line.{State, groups_of, line}
use Rattle.hc_records.specs.TaskList.{Keyed}
use Rattle.hc_records.specs.Packing.{empty_front, packed}
use Rattle.hc_records.specs.Image.{inside}
use Rattle.hc_records.specs.Project.{lowest_fault}
use Rattle.hc_records.specs.Boundaries.{is_touched_task}
use Rattle.hc_records.specs.SpanLaws.{IsTaskList}
use Rattle.hc_places.specs.Table.{task_table}
use Rattle.hc_cuts.specs.Keeping.{is_unchanged}

-- a kept datagram carries the areas that it carried, each at its bit
abbrev pub UnchangedDatagramsStay : Type 0
UnchangedDatagramsStay =
    (old new : List Keyed) (datagram : ℕ) → IsTaskList old → IsTaskList new → is_unchanged old new datagram ≡ true
    → inside datagram (packed empty_front new) ≡ inside datagram (packed empty_front old)

-- a task in which no width differs between the lines of two states of a project has the same table in both
abbrev pub UntouchedTasksStay : Type 0
UntouchedTasksStay =
    (old new : State) (task : ℕ) → lowest_fault (groups_of old.groups) ≡ None → lowest_fault (groups_of new.groups) ≡ None
    → is_touched_task (line old) (line new) task ≡ false → task_table (line new) task ≡ task_table (line old) task
