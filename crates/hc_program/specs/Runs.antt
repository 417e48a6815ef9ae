-- The printed text of a run's turns, and its exit status.
use Rattle.std.specs.Prelude.{ℕ, Bool, true, false, if◌then◌else◌, List, [], ◌∷◌, ◌++◌, Option, Some, None, Result, Ok, Err}
use Rattle.hc_records.specs.declared.edit.Edit.TheVariants.{Declare}
use Rattle.hc_records.specs.declared.faults.ProjectFault.{ProjectFault}
use Rattle.hc_records.specs.declared.records.Group.{Group}
use Rattle.hc_project.specs.Text.{group_in}
use Rattle.hc_events.specs.Steps.{Edits}
use Rattle.hc_text.specs.declared.commands.Command.{Command}
use Rattle.hc_text.specs.Lines.{words_of}
use Rattle.hc_program.specs.Answers.{event_text}
use Rattle.hc_program.specs.Refusals.{bad_command_text, declare_fault_text}
use Rattle.hc_text.specs.Commands.{command_in}
use Rattle.hc_program.specs.Commands.{session_left_by, printed}
use Rattle.hc_program.specs.Declaring.{Turn, Says, Declares}
use Rattle.hc_program.specs.Standings.{SessionState, session_edited, session_published}

-- the printed text of a turn, the state that it leaves, and whether the run goes on after it
pub record Reply : Type 0 where
  pub text : List ℕ
  pub session_state : SessionState
  pub goes_on : Bool

-- a reply of its parts
abbrev pub reply_of : List ℕ → SessionState → Bool → Reply
reply_of text next goes_on = record { text = text; session_state = next; goes_on = goes_on }

-- a line that is no command ends the run
abbrev pub reply_to_command : SessionState → ℕ → Option Command → Reply
reply_to_command s number None = record { text = bad_command_text number; session_state = s; goes_on = false }
reply_to_command s number (Some command) =
    record { text = printed s command; session_state = session_left_by s command; goes_on = true }

-- a blank line prints nothing
abbrev pub reply_to_words : SessionState → ℕ → List (List ℕ) → Reply
reply_to_words s number [] = record { text = []; session_state = s; goes_on = true }
reply_to_words s number (name ∷ arguments) = reply_to_command s number (command_in name arguments)

-- the reply to the document of a declaration: its group is declared, as by any edit, or its fault is reported
abbrev pub reply_to_document : SessionState → Result Group ProjectFault → Reply
reply_to_document s (Ok group) = record { text = event_text s.history (Edits (Declare group)); session_state = session_edited s (Declare group); goes_on = true }
reply_to_document s (Err fault) = record { text = declare_fault_text fault; session_state = s; goes_on = true }

-- the reply to a turn before anything is published: to the words of a line, or to a document; a declaration without one is no command
unfoldable pub bare_reply : SessionState → Turn → Reply
bare_reply s (Says number text) = reply_to_words s number (words_of text)
bare_reply s (Declares number None) = reply_to_command s number None
bare_reply s (Declares number (Some document)) = reply_to_document s (group_in document)

-- a reply after which the changes that the core accepted are published
abbrev pub then_published : Reply → Reply
then_published reply = record reply { session_state = session_published reply.session_state }

-- the reply to a turn
unfoldable pub reply_to : SessionState → Turn → Reply
reply_to s turn = then_published (bare_reply s turn)

-- the printed text of a run, and its exit status
pub record Outcome : Type 0 where
  pub text : List ℕ
  pub status : ℕ

-- a reply, and the outcome of the turns after it unless the run ends there
abbrev pub outcome_after_reply : Reply → Outcome → Outcome
outcome_after_reply reply rest =
    if reply.goes_on
    then record { text = reply.text ++ rest.text; status = rest.status }
    else record { text = reply.text; status = 2 }

-- the outcome of the turns of a run from a state on
unfoldable pub run : SessionState → List Turn → Outcome
run s [] = record { text = []; status = 0 }
run s (turn ∷ turns) = outcome_after_reply (reply_to s turn) (run (reply_to s turn).session_state turns)
