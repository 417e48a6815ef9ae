-- The line after events.
use Rattle.std.specs.Prelude.{◌≡◌, Bool, true, false, if◌then◌else◌, List, [], ◌∷◌, ◌++◌}
use Rattle.hc_records.specs.declared.edit.Edit.{Edit}
use Rattle.hc_records.specs.Edits.{state_after_all}
use Rattle.hc_events.specs.declared.answer.Answer.{Answer}
use Rattle.hc_events.specs.declared.answer.Answer.TheVariants as answer
use Rattle.hc_events.specs.declared.faults.CoreFault.TheVariants.{Memory}
use Rattle.hc_events.specs.Entries.{History}
use Rattle.hc_events.specs.Points.{state_of}
use Rattle.hc_events.specs.Steps.{Step, Edits}

-- the answer is a refusal with `Memory`
abbrev pub wants_memory : Answer → Bool
wants_memory (answer.Refused Memory) = true
wants_memory _ = false

-- the edits among events, without those refused with `Memory`
abbrev pub carried_edit : Step → Answer → List Edit
carried_edit (Edits edit) returned = if wants_memory returned then [] else edit ∷ []
carried_edit step returned = []

-- the edits among events, in order, without those refused with `Memory`, by the answers to the events
abbrev pub carried_edits : List Step → List Answer → List Edit
carried_edits [] answers = []
carried_edits (step ∷ steps) [] = []
carried_edits (step ∷ steps) (returned ∷ answers) = carried_edit step returned ++ carried_edits steps answers

-- the line is the one that these edits lead to: a refused one changes nothing
abbrev pub IsLineAfter : History → List Step → List Answer → History → Type 0
IsLineAfter history steps answers next = state_of next ≡ state_after_all (state_of history) (carried_edits steps answers)
