-- Outcomes of a run in which an allocation failed, or a seat or a view was refused.
use Rattle.std.specs.Prelude.{◌≡◌, ◌≤◌, ◌⊎◌, ℕ, true, List, [], ◌∷◌, length, Option, Some, None, Ok, IsOk}
use Rattle.hc_records.specs.declared.faults.ProjectFault.TheVariants as project
use Rattle.hc_events.specs.Entries.{History}
use Rattle.hc_text.specs.declared.input.TheConstants.{MOST_INPUT}
use Rattle.hc_text.specs.Lines.{Line, command_lines, lines_of, project_text, words_of}
use Rattle.hc_project.specs.Text.{project_in}
use Rattle.hc_program.specs.declared.opening.Unopened.TheVariants.{Project, Memory, NoSeat}
use Rattle.hc_program.specs.Opening.{opening_of}
use Rattle.hc_text.specs.declared.commands.Command.{Command}
use Rattle.hc_program.specs.declared.stops.Stop.{Stop}
use Rattle.hc_text.specs.Commands.{command_in}
use Rattle.hc_program.specs.Declaring.{Turn, Says, Declares, turns_of}
use Rattle.hc_program.specs.Standings.{SessionState, opened_session_state}
use Rattle.hc_program.specs.Stops.{StopsIn, Unchanged, stop_text}
use Rattle.hc_program.specs.Runs.{Outcome, Reply, bare_reply, outcome_after_reply, reply_to, then_published}
use Rattle.hc_program.specs.declared.engine.RunEnd.{RunEnd}
use Rattle.hc_program.specs.Text.{EndsAs, unopened, unread}
use Rattle.hc_program.specs.Turns.{AnswersLine}

-- the command that the words of a line spell
abbrev pub spelt_command : List (List ℕ) → Option Command
spelt_command [] = None
spelt_command (name ∷ arguments) = command_in name arguments

-- a line of these words with a failed allocation or a refused view: nothing was carried out, or its command was stopped
abbrev pub StopsWords : SessionState → List (List ℕ) → Stop → SessionState → Type 0
StopsWords s words why next = Unchanged s why next ⊎ ((command : Command) × (spelt_command words ≡ Some command) × StopsIn s command why next)

-- a turn that was stopped; a declaration was not carried out
abbrev pub StopsTurn : SessionState → Turn → Stop → SessionState → Type 0
StopsTurn s (Says number text) why next = StopsWords s (words_of text) why next
StopsTurn s (Declares number document) why next = Unchanged s why next

-- the reply to a turn that was stopped: it prints the cause, and the run goes on
pub record IsStopped (s : SessionState) (turn : Turn) (reply : Reply) : Type 0 where
  pub why : Stop
  pub stopped : StopsTurn s turn why reply.session_state
  pub text : reply.text ≡ stop_text why
  pub on : reply.goes_on ≡ true

-- the reply to a turn with a failed allocation or a refused view: the turn was stopped, and what it left is published or not; or its own reply is not published
abbrev pub Stops : SessionState → Turn → Reply → Type 0
Stops s turn reply =
    (reply ≡ bare_reply s turn)
    ⊎ ((stopped : Reply) × IsStopped s turn stopped × ((reply ≡ stopped) ⊎ (reply ≡ then_published stopped)))

-- a turn is answered by such a reply
abbrev pub StopsLine : SessionState → Turn → Option (List ℕ) → Option (List ℕ) → SessionState → Option ℕ → Type 0
StopsLine s turn before after next end = (reply : Reply) × Stops s turn reply × AnswersLine before after next end reply

-- a reply, and after it what `Rest` allows
abbrev pub GivesFirst : Reply → (Outcome → Type 0) → Outcome → Type 0
GivesFirst reply Rest outcome = (rest : Outcome) × Rest rest × (outcome ≡ outcome_after_reply reply rest)

-- a run of turns; each gives its reply, or one for a failed allocation or a refused view
unfoldable pub RunsWithRefusedGrowth : SessionState → List Turn → Outcome → Type 0
RunsWithRefusedGrowth s [] outcome = outcome ≡ record { text = []; status = 0 }
RunsWithRefusedGrowth s (turn ∷ turns) outcome =
    GivesFirst (reply_to s turn) (RunsWithRefusedGrowth (reply_to s turn).session_state turns) outcome
    ⊎ ((reply : Reply) × Stops s turn reply × GivesFirst reply (RunsWithRefusedGrowth reply.session_state turns) outcome)

-- a run of turns, at least one of which gives a reply for a failed allocation or a refused view: a later one, which the run reaches, or the first
unfoldable pub StarvedRun : SessionState → List Turn → Outcome → Type 0
StarvedRun s [] outcome = ⊥
StarvedRun s (turn ∷ turns) outcome =
    ((reply_to s turn).goes_on ≡ true) × GivesFirst (reply_to s turn) (StarvedRun (reply_to s turn).session_state turns) outcome
    ⊎ ((reply : Reply) × Stops s turn reply × GivesFirst reply (RunsWithRefusedGrowth reply.session_state turns) outcome)

-- an allocation failed while the project was read or its fault reported, or while it was opened or its fault reported; or a seat was refused of a project that
-- can be opened; or an allocation failed or a view was refused for a turn
abbrev pub StarvedSections : List ℕ → List Line → Outcome → Type 0
StarvedSections text lines outcome =
    (outcome ≡ unopened (Project project.Memory))
    ⊎ IsOk (project_in text) × (outcome ≡ unopened Memory)
    ⊎ IsOk (opening_of text) × (outcome ≡ unopened NoSeat)
    ⊎ ((history : History) × (opening_of text ≡ Ok history) × StarvedRun (opened_session_state history) (turns_of lines) outcome)

-- an allocation failed while the input was read, which prints nothing, or after that
abbrev pub StarvedOutcome : List ℕ → Outcome → Type 0
StarvedOutcome input outcome =
    (outcome ≡ unread)
    ⊎ (length input ≤ MOST_INPUT) × StarvedSections (project_text (lines_of input)) (command_lines (lines_of input)) outcome

-- the run ends as one of the outcomes that `Allowed` allows
abbrev pub EndsAsOne : Option (List ℕ) → Option (List ℕ) → RunEnd → (Outcome → Type 0) → Type 0
EndsAsOne old new end Allowed = (outcome : Outcome) × Allowed outcome × EndsAs old new end outcome
