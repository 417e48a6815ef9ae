-- The outcome of an input, from where its project opens, and of what a reader had left.
use Rattle.std.proofs.Common.{◌≡◌, ℕ, ◌≤◌, ◌<◌, List, length, cond, ap, subst, ◌∙◌, Ok, Err, Some, None}
use Rattle.std.specs.Prelude.{IfSome, Option}
use Rattle.std.proofs.lemmas.Bool.{lt-ltb, le-ltb}
use Rattle.hc_events.specs.Entries.{History}
use Rattle.hc_text.specs.declared.input.TheConstants.{MOST_INPUT}
use Rattle.hc_program.specs.declared.opening.Unopened.{Unopened}
use Rattle.hc_text.specs.Lines.{command_lines, lines_of, project_text}
use Rattle.hc_program.specs.Declaring.{turns_of}
use Rattle.hc_program.specs.Opening.{opening_of}
use Rattle.hc_program.specs.Runs.{run}
use Rattle.hc_program.specs.Standings.{opened_session_state}
use Rattle.hc_program.specs.Text.{program_outcome, outcome_of_lines, run_opened, unopened, unread}

lines_outcome : (input : List ℕ) → length input ≤ MOST_INPUT → program_outcome input ≡ outcome_of_lines (lines_of input)
unfolding program_outcome
lines_outcome input within =
    ap (λ b. cond b unread (outcome_of_lines (lines_of input))) (le-ltb MOST_INPUT (length input) within)

-- an input that is too long
pub long_outcome : (input : List ℕ) → MOST_INPUT < length input → program_outcome input ≡ unread
unfolding program_outcome
long_outcome input long = ap (λ b. cond b unread (outcome_of_lines (lines_of input))) (lt-ltb MOST_INPUT (length input) long)

pub opened_outcome : (input : List ℕ) (history : History) → length input ≤ MOST_INPUT → opening_of (project_text (lines_of input)) ≡ Ok history
    → program_outcome input ≡ run (opened_session_state history) (turns_of (command_lines (lines_of input)))
unfolding outcome_of_lines
opened_outcome input history within opens = lines_outcome input within ∙ ap (λ opening. run_opened opening (command_lines (lines_of input))) opens

pub unopened_outcome : (input : List ℕ) (fault : Unopened) → length input ≤ MOST_INPUT → opening_of (project_text (lines_of input)) ≡ Err fault
    → program_outcome input ≡ unopened fault
unfolding outcome_of_lines
unopened_outcome input fault within opens = lines_outcome input within ∙ ap (λ opening. run_opened opening (command_lines (lines_of input))) opens

-- what holds of the bytes that were read holds of what the reader had left, where that is known
pub of_known : (remaining : Option (List ℕ)) (Holds : List ℕ → Type 0) (bytes read : List ℕ) → IfSome remaining (λ all. bytes ≡ all) → read ≡ bytes → Holds read → IfSome remaining Holds
of_known None Holds bytes read same is holds = tt
of_known (Some all) Holds bytes read same is holds = subst Holds (is ∙ same) holds
