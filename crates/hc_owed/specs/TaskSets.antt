-- Sets of tasks.
use Rattle.std.specs.Prelude.{ℕ, ◌==◌, ◌||◌, not, Bool, true, false, Option}
use Rattle.std.specs.Int.{bit_at}
use Rattle.std.specs.Option.{option_map_or}
use Rattle.hc_events.specs.Ready.{mask_of}
use Rattle.hc_owed.specs.declared.task_set.TaskSet.{TaskSet}

-- the tasks that pass a test
unfoldable pub tasks_where : (ℕ → Bool) → TaskSet
tasks_where test = record { bits = mask_of test }

-- a task is in a set
unfoldable pub has_task : ℕ → TaskSet → Bool
has_task task set = bit_at set.bits task == 1

-- some task is in a set
unfoldable pub some_task : TaskSet → Bool
some_task set = not (set.bits == 0)

-- no task
abbrev pub no_task : TaskSet
no_task = tasks_where (λ task. false)

-- every task
abbrev pub every_task : TaskSet
every_task = tasks_where (λ task. true)

-- one task, or none
abbrev pub only_task : Option ℕ → TaskSet
only_task own = tasks_where (λ task. option_map_or (λ one. one == task) own false)

-- the tasks of two sets
abbrev pub either_set : TaskSet → TaskSet → TaskSet
either_set a b = tasks_where (λ task. has_task task a || has_task task b)
