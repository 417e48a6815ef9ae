-- The events that a core may be asked to serve, and the answers to a list of events (this project's profile).
use Rattle.std.specs.Prelude.{◌≡◌, List, [], ◌∷◌, Result, Ok, Err}
use Rattle.hc_records.specs.declared.faults.EditFault.{EditFault}
use Rattle.hc_events.specs.declared.answer.Answer.{Answer}
use Rattle.hc_events.specs.declared.answer.Answer.TheVariants as answer
use Rattle.hc_events.specs.declared.faults.CoreFault.{CoreFault}
use Rattle.hc_events.specs.declared.faults.CoreFault.TheVariants.{Memory}
use Rattle.hc_events.specs.Calls.{AreSentTogether, MayAnswer}
use Rattle.hc_events.specs.Entries.{History}
use Rattle.hc_events.specs.Faults.{edit_refusal}
use Rattle.hc_events.specs.Steps.{Step, SendsReady, SendsTasks}
use Rattle.hc_core.specs.Early.{ShowsEarly}

-- the condition on a caller: tasks that are sent together are 1 to 8 and distinct; no other event has one
abbrev pub IsAsked : Step → Type 0
IsAsked (SendsTasks tasks) = AreSentTogether tasks
IsAsked (SendsReady tasks) = AreSentTogether tasks
IsAsked step = Unit {0}

-- the answer to an event, from the result of the call that serves it: its answer, or a refusal
abbrev pub answer_of : Result Answer CoreFault → Answer
answer_of (Ok returned) = returned
answer_of (Err fault) = answer.Refused fault

-- the answer to a post, from the result of its call: posted, or a refusal
abbrev pub answer_of_post : {X : Type 0} → Result X CoreFault → Answer
answer_of_post (Ok done) = answer.Posted
answer_of_post (Err fault) = answer.Refused fault

-- the answer to forgetting a slave, from the result of its call: forgotten, or a refusal
abbrev pub answer_of_forget : {X : Type 0} → Result X CoreFault → Answer
answer_of_forget (Ok done) = answer.Forgotten
answer_of_forget (Err fault) = answer.Refused fault

-- the answer to clearing a slave, from the result of its call: cleared, or a refusal
abbrev pub answer_of_clear : {X : Type 0} → Result X CoreFault → Answer
answer_of_clear (Ok done) = answer.Cleared
answer_of_clear (Err fault) = answer.Refused fault

-- the answer to unplugging a slave, from the result of its call: unplugged, or a refusal
abbrev pub answer_of_unplug : {X : Type 0} → Result X CoreFault → Answer
answer_of_unplug (Ok done) = answer.Unplugged
answer_of_unplug (Err fault) = answer.Refused fault

-- the answer to an edit, from the result of its call: its answer, or a refusal with the edit's fault
abbrev pub answer_of_edit : Result Answer EditFault → Answer
answer_of_edit (Ok returned) = returned
answer_of_edit (Err fault) = answer.Refused (edit_refusal fault)

-- the answer of a call that can fail only with `Memory`: its answer, or the refusal with `Memory`
abbrev pub answer_or_memory : {E : Type 0} → Result Answer E → Answer
answer_or_memory (Ok returned) = returned
answer_or_memory (Err error) = answer.Refused Memory

-- the answers that a list of events may have, one by one, and the record that they lead to; a fault that is judged before
-- memory is allocated is reported
abbrev pub MayAnswerAll : History → List Step → List Answer → History → Type 0
MayAnswerAll history [] [] next = next ≡ history
MayAnswerAll history [] (returned ∷ answers) next = ⊥
MayAnswerAll history (step ∷ steps) [] next = ⊥
MayAnswerAll history (step ∷ steps) (returned ∷ answers) next = (between : History) × MayAnswer history step returned between × MayAnswerAll between steps answers next × ShowsEarly history step returned
