-- One turn of a run: a line is answered, and its reply is written.
use Rattle.std.specs.Prelude.{◌≡◌, ◌≢◌, ◌==◌, ℕ, Bool, true, false, if◌then◌else◌, List, ◌++◌, take, Option, Some, None}
use Rattle.std.specs.Io.KnownBytes.{Appends}
use Rattle.hc_program.specs.declared.engine.Broken.TheVariants.{Unwritten}
use Rattle.hc_program.specs.declared.engine.RunEnd.{RunEnd}
use Rattle.hc_program.specs.Runs.{Outcome, Reply}
use Rattle.hc_program.specs.Standings.{SessionState}
use Rattle.hc_program.specs.Text.{IsCutShort}

-- the run goes on after the reply, from the state that the reply leaves
pub record GoesOn (old new : Option (List ℕ)) (next : SessionState) (reply : Reply) : Type 0 where
  pub written : Appends old new reply.text
  pub left : next ≡ reply.session_state
  pub on : reply.goes_on ≡ true

-- the run ends here: after the whole reply, which ends it, or with status 4 if less than the whole reply was written
pub record Ends (old new : Option (List ℕ)) (status : ℕ) (reply : Reply) : Type 0 where
  pub whole : status ≢ 4 → Appends old new reply.text × (status ≡ 2) × (reply.goes_on ≡ false)
  pub front : (n : ℕ) × Appends old new (take n reply.text)
  pub cut : status ≡ 4 → IsCutShort old new reply.text

-- the end of a run whose input was read: a write failed if its status is 4
abbrev pub run_end_of : ℕ → Bool → RunEnd
run_end_of status starved = record { status = status; starved = starved; broken = if status == 4 then Some Unwritten else None }

-- a line was answered: if no exit status is given the run goes on (`GoesOn`), else it ends there with that status (`Ends`)
abbrev pub AnswersLine : Option (List ℕ) → Option (List ℕ) → SessionState → Option ℕ → Reply → Type 0
AnswersLine old new next None reply = GoesOn old new next reply
AnswersLine old new next (Some status) reply = Ends old new status reply

-- the exit status after a reply that was written, if the run ends there
abbrev pub end_after : Bool → Option ℕ
end_after true = None
end_after false = Some 2

-- some bytes were written, and with those that are left to write they are all
pub record WritesBytes (old new : Option (List ℕ)) (left all : List ℕ) : Type 0 where
  pub done : List ℕ
  pub appended : Appends old new done
  pub whole : done ++ left ≡ all

-- the rest of a run and the text that was written of it are the whole run
pub record Continues (old new : Option (List ℕ)) (left all : Outcome) : Type 0 where
  pub text : WritesBytes old new left.text all.text
  pub status : left.status ≡ all.status
