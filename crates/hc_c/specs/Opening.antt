-- The opening of a line from a project's text.
use Rattle.std.specs.Prelude.{ℕ, ◌+◌, ◌==◌, ◌&&◌, nat_le, Bool, List, Option, Some, None, Result, Ok, Err, replicate}
use Rattle.hc_records.specs.declared.limits.TheConstants.{TASKS}
use Rattle.hc_records.specs.declared.records.Group.{Group}
use Rattle.hc_records.specs.declared.faults.ProjectFault.{ProjectFault}
use Rattle.hc_records.specs.Edits.{over_limit_task}
use Rattle.hc_records.specs.Line.{line, opened}
use Rattle.hc_records.specs.ProjectFault.{project_fault_number}
use Rattle.hc_events.specs.Accepted.{just_opened}
use Rattle.hc_c.specs.Counts.{opening_counts}
use Rattle.hc_c.specs.Embedded.{core_without_changes}
use Rattle.hc_c.specs.Seats.{no_seats}
use Rattle.hc_c.specs.declared.embedded.Embedded.{Embedded}
use Rattle.hc_c.specs.declared.opening.Options.{Options}
use Rattle.hc_c.specs.declared.opening.TheConstants.{MOST_LOOKERS, OPTIONS_BYTES}
use Rattle.hc_c.specs.declared.numbers.TheConstants.{OVER_LIMIT, DONE, PROJECT}

-- a line whose core has done nothing: no task was sent, nothing was counted, no task has a seat, `lookers` numbers for seats
-- that only look have none, and no call runs
abbrev pub at_opening : ℕ → List Group → Embedded
at_opening lookers groups = record { core = core_without_changes (just_opened groups); sent_from = replicate TASKS 0; counts = opening_counts; ends = no_seats lookers; spare = tt; calls = record { run = tt } }

-- the opened line of a text, if the text is a project
abbrev pub opened_by : ℕ → Result (List Group) ProjectFault → Option Embedded
opened_by lookers (Ok groups) = Some (at_opening lookers groups)
opened_by lookers (Err fault) = None

-- a handle with this mark may be opened with these options: it is closed, the options have the size of this version's, and they
-- ask for at most 64 seats that only look
abbrev pub may_open : ℕ → Options → Bool
may_open mark options = (mark == 0) && ((options.size == OPTIONS_BYTES) && nat_le options.lookers MOST_LOOKERS)

-- the lowest task of the opening line that needs more than 16 datagrams
abbrev pub over_limit_in : Result (List Group) ProjectFault → Option ℕ
over_limit_in (Ok groups) = over_limit_task (line (opened groups))
over_limit_in (Err fault) = None

-- 12 if a task of the opening line needs more than 16 datagrams, else 0
abbrev pub crowd_number : Option ℕ → ℕ
crowd_number None = DONE
crowd_number (Some task) = OVER_LIMIT

-- the answer to opening the project of a text if memory suffices: the project's fault, 201 to 210, else 12 if a task needs too
-- many datagrams, else 0
abbrev pub opening_number : Result (List Group) ProjectFault → ℕ
opening_number (Ok groups) = crowd_number (over_limit_task (line (opened groups)))
opening_number (Err fault) = PROJECT + project_fault_number fault
