-- The tasks that cannot be sent with ready ones, and the fault of a slave outside the line (this project's profile).
use Rattle.std.specs.Prelude.{ℕ, ◌||◌, not, Bool, true, false, if◌then◌else◌, List, [], ◌∷◌, Option, Some, None}
use Rattle.hc_records.specs.declared.faults.EditFault.{EditFault}
use Rattle.hc_records.specs.declared.faults.EditFault.TheVariants.{Absent}
use Rattle.hc_events.specs.Entries.{History}
use Rattle.hc_events.specs.Ready.{is_ready}
use Rattle.hc_events.specs.Steps.{is_no_task}

-- a number is no task's, or its task waits
abbrev pub is_unready : History → ℕ → Bool
is_unready history task = is_no_task task || not (is_ready history task)

-- the first of several numbers that is no task's or whose task waits, or none
abbrev pub first_unready : History → List ℕ → Option ℕ
first_unready history [] = None
first_unready history (task ∷ tasks) = if is_unready history task then Some task else first_unready history tasks

-- the fault of a declared slave outside the line
abbrev pub is_absent : EditFault → Bool
is_absent Absent = true
is_absent fault = false
