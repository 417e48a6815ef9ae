-- The printed text of the program for an input, and its exit status.
use Rattle.std.specs.Prelude.{◌≡◌, ◌≢◌, ◌<◌, ℕ, nat_lt, if◌then◌else◌, List, [], length, take, Option, Some, None, Result, Ok, Err}
use Rattle.std.specs.Io.KnownBytes.{Appends}
use Rattle.hc_events.specs.Entries.{History}
use Rattle.hc_text.specs.declared.input.TheConstants.{MOST_INPUT}
use Rattle.hc_text.specs.declared.input.Unread.TheVariants.{TooLong}
use Rattle.hc_program.specs.declared.engine.Broken.{Broken}
use Rattle.hc_program.specs.declared.engine.Broken.TheVariants.{Unread, Unwritten}
use Rattle.hc_program.specs.declared.engine.RunEnd.{RunEnd}
use Rattle.hc_program.specs.declared.opening.Unopened.{Unopened}
use Rattle.hc_text.specs.Lines.{Line, command_lines, lines_of, project_text}
use Rattle.hc_program.specs.Declaring.{turns_of}
use Rattle.hc_program.specs.Opening.{opening_of, unopened_text}
use Rattle.hc_program.specs.Runs.{Outcome, run}
use Rattle.hc_program.specs.Standings.{opened_session_state}

-- the outcome of a project that is not opened: the line of the fault, and status 3
abbrev pub unopened : Unopened → Outcome
unopened fault = record { text = unopened_text fault; status = 3 }

-- the run of the command lines from the opening on, turn by turn; if nothing was opened, the outcome with the fault
abbrev pub run_opened : Result History Unopened → List Line → Outcome
run_opened (Ok history) lines = run (opened_session_state history) (turns_of lines)
run_opened (Err fault) lines = unopened fault

-- the project before the mark is opened, then the command lines after the mark are run
unfoldable pub outcome_of_lines : List Line → Outcome
outcome_of_lines lines = run_opened (opening_of (project_text lines)) (command_lines lines)

-- an input that is not read prints nothing
abbrev pub unread : Outcome
unread = record { text = []; status = 4 }

-- the printed text of the program for an input, and its exit status; an input that is too long is not read
unfoldable pub program_outcome : List ℕ → Outcome
program_outcome input =
    if nat_lt MOST_INPUT (length input) then unread else outcome_of_lines (lines_of input)

-- a prefix of a text was written, and less than the whole
abbrev pub IsCutShort : Option (List ℕ) → Option (List ℕ) → List ℕ → Type 0
IsCutShort old new text = (n : ℕ) × (n < length text) × Appends old new (take n text)

-- the cause of a run's status: nothing broke, and it is not 4; or the input is too long, and the outcome says so; or the input was not read for another reason,
-- and nothing was written; or a write failed, and less than the whole text was written
abbrev pub Breaks : Option Broken → Option (List ℕ) → Option (List ℕ) → ℕ → Outcome → Type 0
Breaks None old new status outcome = status ≢ 4
Breaks (Some (Unread TooLong)) old new status outcome = (status ≡ 4) × (outcome ≡ unread)
Breaks (Some (Unread fault)) old new status outcome = (status ≡ 4) × Appends old new []
Breaks (Some Unwritten) old new status outcome = (status ≡ 4) × IsCutShort old new outcome.text

-- the outcome's text was written and the status is its status, or the status is 4 and a prefix of that text was written; and the end gives the cause of status
-- 4
pub record EndsAs (old new : Option (List ℕ)) (end : RunEnd) (outcome : Outcome) : Type 0 where
  pub whole : end.status ≢ 4 → Appends old new outcome.text × (end.status ≡ outcome.status)
  pub front : (n : ℕ) × Appends old new (take n outcome.text)
  pub broken : Breaks end.broken old new end.status outcome
