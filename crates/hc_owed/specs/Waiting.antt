-- The numbers of blocks and registers that a task waits for, counted area by area.
use Rattle.std.specs.Prelude.{◌≡◌, ◌≤◌, ℕ, ◌+◌, ◌<◌, List, slice_index, sum_by}
use Rattle.hc_records.specs.declared.limits.TheConstants.{TASKS}
use Rattle.hc_owed.specs.declared.area.JudgedArea.{JudgedArea}
use Rattle.hc_owed.specs.declared.task_set.TaskSet.{TaskSet}
use Rattle.hc_owed.specs.Flags.{one}
use Rattle.hc_owed.specs.TaskSets.{has_task}

-- for each task a number is the sum over the areas
abbrev pub AreCounted : (ℕ → JudgedArea → ℕ) → List JudgedArea → List ℕ → Type 0
AreCounted waited areas counts = (task : ℕ) → task < TASKS → slice_index counts task ≡ sum_by (waited task) areas

-- the tasks of a set can be taken out of counts
abbrev pub CanTakeOut : List ℕ → TaskSet → Type 0
CanTakeOut counts set = (task : ℕ) → task < TASKS → one (has_task task set) ≤ slice_index counts task

-- the tasks of a set were taken out of counts
abbrev pub TakesOut : List ℕ → List ℕ → TaskSet → Type 0
TakesOut old new set = (task : ℕ) → task < TASKS → slice_index new task + one (has_task task set) ≡ slice_index old task

-- one more can be counted of each task
abbrev pub CanCountIn : List ℕ → Type 0
CanCountIn counts = (task : ℕ) → task < TASKS → slice_index counts task < 4294967295

-- the tasks of a set were counted
abbrev pub CountsIn : List ℕ → List ℕ → TaskSet → Type 0
CountsIn old new set = (task : ℕ) → task < TASKS → slice_index new task ≡ slice_index old task + one (has_task task set)

-- the tasks of a set can be taken out of counts, and those of another counted
abbrev pub CanRecount : List ℕ → TaskSet → Type 0
CanRecount counts was = (task : ℕ) → task < TASKS → (one (has_task task was) ≤ slice_index counts task) × (slice_index counts task < 4294967295)

-- the tasks of one set were taken out of counts, and those of another were counted
abbrev pub Recounts : List ℕ → List ℕ → TaskSet → TaskSet → Type 0
Recounts old new was now = (task : ℕ) → task < TASKS → slice_index new task + one (has_task task was) ≡ slice_index old task + one (has_task task now)
