-- The tasks that an edit changes, and the edit's effect on their data and their epochs.
use Rattle.std.specs.Prelude.{◌≡◌, ◌==◌, ◌&&◌, ◌||◌, ℕ, ◌<◌, if◌then◌else◌, Bool, true, false, List, slice_index, None}
use Rattle.std.specs.List.{list_any}
use Rattle.hc_records.specs.declared.edit.Edit.{Edit}
use Rattle.hc_records.specs.declared.edit.Edit.TheVariants.{Connect, Declare, Disconnect, Move, Remap}
use Rattle.hc_records.specs.declared.limits.TheConstants.{MOST_DATAGRAMS, TASKS}
use Rattle.hc_places.specs.Swap.{Change, ChangedRow, ChangedTask}
use Rattle.hc_places.specs.Table.{Table, place_in}
use Rattle.hc_plan.specs.Prepared.{PreparedEdit}
use Rattle.hc_images.specs.Image.{DatagramImage, data_of}
use Rattle.hc_owed.specs.declared.task_set.TaskSet.{TaskSet}
use Rattle.hc_owed.specs.ChangedTasks.{changes_blocks}
use Rattle.hc_owed.specs.TaskSets.{has_task}
use Rattle.hc_events.specs.Entries.{History}
use Rattle.hc_events.specs.Points.{state_of}
use Rattle.hc_events.specs.Steady.{changes_task, lies_in_task, task_epoch}
use Rattle.hc_core.specs.Ages.{Ages, age_of}

-- by a swap

-- a change of a table has a new table of a task
abbrev pub has_table : Change → ℕ → Bool
has_table change task = list_any (λ (changed : ChangedTask). changed.0 == task) change.tasks

-- the old place of a changed variable or its new one is in a task
abbrev pub row_lies : Table → ℕ → ChangedRow → Bool
row_lies table task changed = lies_in_task task (place_in table changed.0) || lies_in_task task changed.1

-- one of a change's variables has its old place or its new one in a task
abbrev pub has_place : Table → Change → ℕ → Bool
has_place table change task = list_any (row_lies table task) change.rows

-- by a prepared edit

-- the edit gives an area other PDOs
abbrev pub remaps : Edit → Bool
remaps (Connect alias) = false
remaps (Disconnect alias) = false
remaps (Remap station area pdos) = true
remaps (Move station area task) = false
remaps (Declare group) = false

-- an edit is prepared for the line of a record
pub record IsOfHistory (edit : PreparedEdit) : Type 0 where
  pub history : History
  pub made : edit.old ≡ state_of history

-- a set has just the tasks whose register blocks the edit changes
abbrev pub HasTasksOfBlocks : PreparedEdit → TaskSet → Type 0
HasTasksOfBlocks edit blocks = (task : ℕ) → task < TASKS → has_task task blocks ≡ changes_blocks edit.old edit.new task

-- a set has just the tasks that the edit changes
abbrev pub HasChangedTasks : PreparedEdit → TaskSet → Type 0
HasChangedTasks edit changed = (task : ℕ) → task < TASKS → has_task task changed ≡ changes_task edit.old edit.new task

-- the effect on the data, the ages and the epochs of tasks

-- if a task is changed, its datagrams have no data from then on; each other datagram keeps what it had
abbrev pub EmptiesIf : Bool → ℕ → DatagramImage → DatagramImage → Type 0
EmptiesIf changed task old new = (t d : ℕ) → d < MOST_DATAGRAMS → data_of new t d ≡ (if changed && (task == t) then None else data_of old t d)

-- if a task is changed, its datagrams have no age from then on; each other datagram keeps its own
abbrev pub UndatesIf : Bool → ℕ → Ages → Ages → Type 0
UndatesIf changed task old new = (t d : ℕ) → d < MOST_DATAGRAMS → age_of new t d ≡ (if changed && (task == t) then None else age_of old t d)

-- each datagram of a task in the set has no data from then on, and each of another task keeps what it had
abbrev pub EmptiesTasks : TaskSet → DatagramImage → DatagramImage → Type 0
EmptiesTasks changed old new =
    (task d : ℕ) → task < TASKS → d < MOST_DATAGRAMS → data_of new task d ≡ (if has_task task changed then None else data_of old task d)

-- each datagram of a task in the set has no age from then on, and each of another task keeps its own
abbrev pub UndatesTasks : TaskSet → Ages → Ages → Type 0
UndatesTasks changed old new = (task d : ℕ) → task < TASKS → d < MOST_DATAGRAMS → age_of new task d ≡ (if has_task task changed then None else age_of old task d)

-- each task in the set has this epoch from then on, and each other one keeps its own
abbrev pub RaisesTasks : TaskSet → ℕ → List ℕ → List ℕ → Type 0
RaisesTasks changed epoch old new = (task : ℕ) → task < TASKS → slice_index new task ≡ (if has_task task changed then epoch else slice_index old task)

-- the epochs of the tasks are those that the record says
abbrev pub ShowEpochs : History → List ℕ → Type 0
ShowEpochs history epochs = (task : ℕ) → task < TASKS → slice_index epochs task ≡ task_epoch history task
