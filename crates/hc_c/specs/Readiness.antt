-- The slaves that hold up a task, in C.
use Rattle.std.specs.Prelude.{ℕ, nat_lt, if◌then◌else◌, Option, None}
use Rattle.hc_records.specs.declared.limits.TheConstants.{TASKS}
use Rattle.hc_events.specs.Entries.{History}
use Rattle.hc_events.specs.Ready.{held_by}

-- the slave with a number among those that hold up a task; none if there is no such task
abbrev pub holder_of : History → ℕ → ℕ → Option ℕ
holder_of history task number = if nat_lt task TASKS then held_by history task number else None
