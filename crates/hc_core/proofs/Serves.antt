-- The answers of a core's calls are answers that the event may have.
use Rattle.std.proofs.Common.{◌≡◌, ◌≢◌, ℕ, List, [], ◌∷◌, ◌++◌, ap, true, inl, inr, Option, Some, None, rules}
use Rattle.std.specs.Prelude.{IfErr, IfOk, IfSome, OnErr, OnOk, Result, Ok, Err, ◌⊎◌, option_map}
use Rattle.hc_records.specs.declared.edit.Edit.{Edit}
use Rattle.hc_records.specs.declared.faults.EditFault.{EditFault}
use Rattle.hc_records.specs.declared.faults.EditFault.TheVariants as edit
use Rattle.hc_records.specs.Edits.{changed, edit_faults, edited, refused_by, state_after}
use Rattle.hc_records.specs.Line.{State}
use Rattle.hc_records.specs.Lists.{lowest}
use Rattle.hc_events.specs.declared.answer.Answer.{Answer}
use Rattle.hc_events.specs.declared.answer.Answer.TheVariants as answer
use Rattle.hc_events.specs.declared.faults.CoreFault.{CoreFault}
use Rattle.hc_events.specs.declared.faults.CoreFault.TheVariants as fault
use Rattle.hc_events.specs.Calls.{MayAnswer, takes_memory}
use Rattle.hc_events.specs.Entries.{History, Edited, Forgot, Posted, Unplugged}
use Rattle.hc_events.specs.Ready.{with_cleared}
use Rattle.hc_events.specs.Faults.{edit_refusal}
use Rattle.hc_events.specs.Owed.{owed_blocks}
use Rattle.hc_events.specs.Points.{state_of}
use Rattle.hc_events.specs.Steps.{Step, Edits, Posts, PostsSteady, SendsTasks, SendsWrite, SendsWrites, Reads, Forgets, SendsReady, Clears, Unplugs, SendsFurther, answer_to, clear_faults, edit_refused, entries_after, forget_faults, further_faults, post_faults, post_steady_faults, ready_faults, task_faults, edit_answer, unplug_faults, write_faults}
use Rattle.hc_core.specs.Early.{ShowsEarly}
use Rattle.hc_core.specs.Serving.{MayAnswerAll, answer_of, answer_of_clear, answer_of_edit, answer_of_forget, answer_of_post, answer_of_unplug, answer_or_memory}
use Rattle.hc_core.specs.State.{CoreState}

-- an answer that is the event's, or `Memory`

pub answer-served : {E : Type 0} (old new : History) (step : Step) (result : Result Answer E) → takes_memory step ≡ true → IfOk result (λ answer_given. answer_given ≡ answer_to old step) → OnOk result (new ≡ entries_after old step) → OnErr result (new ≡ old)
    → MayAnswer old step (answer_or_memory result) new
answer-served old new step result takes answers entries same = search rules

-- a core fault is `Memory` or not

-- a register write, and tasks

pub write-served : (old new : History) (result : Result Answer CoreFault) → IfOk result (λ answer_given. answer_given ≡ answer_to old SendsWrite)
    → IfErr result (λ found. found ≢ fault.Memory → lowest (write_faults old (owed_blocks old)) ≡ Some found) → OnOk result (new ≡ entries_after old SendsWrite) → OnErr result (new ≡ old) → MayAnswer old SendsWrite (answer_of result) new
write-served old new result answers names entries same = search rules

pub writes-served : (old new : History) (result : Result Answer CoreFault) → IfOk result (λ answer_given. answer_given ≡ answer_to old SendsWrites)
    → IfErr result (λ found. found ≢ fault.Memory → lowest (write_faults old (owed_blocks old)) ≡ Some found) → OnOk result (new ≡ entries_after old SendsWrites) → OnErr result (new ≡ old) → MayAnswer old SendsWrites (answer_of result) new
writes-served old new result answers names entries same = search rules

pub further-served : (old new : History) (result : Result Answer CoreFault) → IfOk result (λ answer_given. answer_given ≡ answer_to old SendsFurther)
    → IfErr result (λ found. found ≢ fault.Memory → lowest (further_faults old) ≡ Some found) → OnOk result (new ≡ entries_after old SendsFurther) → OnErr result (new ≡ old) → MayAnswer old SendsFurther (answer_of result) new
further-served old new result answers names entries same = search rules

pub tasks-served : (old new : History) (tasks : List ℕ) (result : Result Answer CoreFault) → IfOk result (λ answer_given. answer_given ≡ answer_to old (SendsTasks tasks))
    → IfErr result (λ found. found ≢ fault.Memory → lowest (task_faults old tasks) ≡ Some found) → OnOk result (new ≡ entries_after old (SendsTasks tasks)) → OnErr result (new ≡ old) → MayAnswer old (SendsTasks tasks) (answer_of result) new
tasks-served old new tasks result answers names entries same = search rules

-- the faults that are reported even if memory is short

pub if-some : {X : Type 0} (P Q : X → Type 0) (found : Option X) → ((x : X) → P x → Q x) → IfSome found P → IfSome found Q
if-some P Q found next is = search rules

pub if-mapped : {X Y : Type 0} (f : X → Y) (Q : Y → Type 0) (found : Option X) → IfSome found (λ x. Q (f x)) → IfSome (option_map f found) Q
if-mapped f Q found is = search rules

pub post-early : {X : Type 0} (found : Option CoreFault) (result : Result X CoreFault) → OnOk result (found ≡ None) → IfErr result (λ fault. found ≡ Some fault)
    → IfSome found (λ fault. answer_of_post result ≡ answer.Refused fault)
post-early found result accepted names = search rules

-- an edit

pub accepted_edit : (found : Option EditFault) (made next : State) → refused_by found made ≡ Ok next → found ≡ None
accepted_edit found made next e = search rules

refused_edit : (found : Option EditFault) (made : State) (one : EditFault) → refused_by found made ≡ Err one → found ≡ Some one
refused_edit found made one e = search rules

abbrev IsOutOfMemory : EditFault → Type 0
IsOutOfMemory found = (found ≡ edit.Memory) ⊎ (found ≢ edit.Memory)

is_out_of_memory : (found : EditFault) → IsOutOfMemory found
is_out_of_memory other = search rules

edit_or : (old new : History) (change : Edit) (found : EditFault) → (found ≢ edit.Memory → edited (state_of old) change ≡ Err found) → new ≡ old → IsOutOfMemory found → MayAnswer old (Edits change) (answer.Refused (edit_refusal found)) new
edit_or old new change found names same (inl memory) = search rules
edit_or old new change found names same (inr other) =
    let refused = refused_edit (lowest (edit_faults (state_of old) change)) (changed (state_of old) change) found (names other) in
    let is : edit_refused old change ≡ Some (edit_refusal found) = ap (option_map edit_refusal) refused in
    search rules

pub edit-served : (old new : History) (change : Edit) (result : Result Answer EditFault) → IfOk result (λ answer_given. answer_given ≡ edit_answer (state_of old) (state_after (state_of old) change))
    → OnOk result (edited (state_of old) change ≡ Ok (state_after (state_of old) change)) → IfErr result (λ found. found ≢ edit.Memory → edited (state_of old) change ≡ Err found)
    → OnOk result (new ≡ Edited change ∷ old) → OnErr result (new ≡ old) → MayAnswer old (Edits change) (answer_of_edit result) new
edit-served old new change (Ok answer_given) answers accepted names entries same =
    let none = accepted_edit (lowest (edit_faults (state_of old) change)) (changed (state_of old) change) (state_after (state_of old) change) accepted in
    let is : edit_refused old change ≡ None = ap (option_map edit_refusal) none in
    search rules
edit-served old new change (Err found) answers accepted names entries same = edit_or old new change found names same (is_out_of_memory found)

-- one more event after others

pub all-answered : (history between next : History) (steps : List Step) (answers : List Answer) (step : Step) (answer_given : Answer) → MayAnswerAll history steps answers between → MayAnswer between step answer_given next → ShowsEarly between step answer_given
    → MayAnswerAll history (steps ++ step ∷ []) (answers ++ answer_given ∷ []) next
all-answered history between next [] [] step answer_given all one early = search rules
all-answered history between next [] (other ∷ answers) step answer_given all one early = absurd all
all-answered history between next (first ∷ steps) [] step answer_given all one early = absurd all
all-answered history between next (first ∷ steps) (other ∷ answers) step answer_given all one early =
    (all.0, all.1, all-answered all.0 between next steps answers step answer_given all.2 one early, all.3)

-- the results of calls, in terms of the record alone

pub history-after : {X E : Type 0} (result : Result X E) (old new : CoreState) (next : History) → OnOk result (new ≡ record old { history = next }) → OnOk result (new.history ≡ next)
history-after result old new next entries = search rules

pub history-same : {X E : Type 0} (result : Result X E) (old new : CoreState) → OnErr result (new ≡ old) → OnErr result (new.history ≡ old.history)
history-same result old new same = search rules

pub taken-same : {X E : Type 0} (result : Result X E) (old new : CoreState) (next : History) → OnOk result (new ≡ record old { history = next }) → OnErr result (new ≡ old) → new.taken ≡ old.taken
taken-same result old new next entries same = search rules

pub read-served : {E : Type 0} (history : History) (task : ℕ) (result : Result Answer E) → IfOk result (λ answer_given. answer_given ≡ answer_to history (Reads task)) → MayAnswer history (Reads task) (answer_or_memory result) history
read-served history task result answers = search rules

-- a post takes no memory

pub post-served : {X : Type 0} (old new : History) (task epoch : ℕ) (bytes : List ℕ) (result : Result X CoreFault) → OnOk result (lowest (post_faults old task epoch bytes) ≡ None) → IfErr result (λ found. lowest (post_faults old task epoch bytes) ≡ Some found)
    → OnOk result (new ≡ Posted task bytes ∷ old) → OnErr result (new ≡ old) → MayAnswer old (Posts task epoch bytes) (answer_of_post result) new
post-served old new task epoch bytes result accepted names entries same = search rules

pub steady_post-served : {X : Type 0} (old new : History) (task epoch : ℕ) (bytes : List ℕ) (result : Result X CoreFault) → OnOk result (lowest (post_steady_faults old task epoch bytes) ≡ None)
    → IfErr result (λ found. lowest (post_steady_faults old task epoch bytes) ≡ Some found) → OnOk result (new ≡ Posted task bytes ∷ old) → OnErr result (new ≡ old) → MayAnswer old (PostsSteady task epoch bytes) (answer_of_post result) new
steady_post-served old new task epoch bytes result accepted names entries same = search rules

-- nor does forgetting a slave

pub forget-served : {X : Type 0} (old new : History) (station : ℕ) (result : Result X CoreFault) → OnOk result (lowest (forget_faults old station) ≡ None) → IfErr result (λ found. lowest (forget_faults old station) ≡ Some found)
    → OnOk result (new ≡ Forgot station ∷ old) → OnErr result (new ≡ old) → MayAnswer old (Forgets station) (answer_of_forget result) new
forget-served old new station result accepted names entries same = search rules

pub forget-early : {X : Type 0} (found : Option CoreFault) (result : Result X CoreFault) → OnOk result (found ≡ None) → IfErr result (λ fault. found ≡ Some fault)
    → IfSome found (λ fault. answer_of_forget result ≡ answer.Refused fault)
forget-early found result accepted names = search rules

-- nor does what is said of a slave's FMMUs

pub clear-served : {X : Type 0} (old new : History) (station : ℕ) (result : Result X CoreFault) → OnOk result (lowest (clear_faults old station) ≡ None) → IfErr result (λ found. lowest (clear_faults old station) ≡ Some found)
    → OnOk result (new ≡ with_cleared old station) → OnErr result (new ≡ old) → MayAnswer old (Clears station) (answer_of_clear result) new
clear-served old new station result accepted names entries same = search rules

pub clear-early : {X : Type 0} (found : Option CoreFault) (result : Result X CoreFault) → OnOk result (found ≡ None) → IfErr result (λ fault. found ≡ Some fault)
    → IfSome found (λ fault. answer_of_clear result ≡ answer.Refused fault)
clear-early found result accepted names = search rules

pub unplug-served : {X : Type 0} (old new : History) (station : ℕ) (result : Result X CoreFault) → OnOk result (lowest (unplug_faults old station) ≡ None) → IfErr result (λ found. lowest (unplug_faults old station) ≡ Some found)
    → OnOk result (new ≡ Unplugged station ∷ old) → OnErr result (new ≡ old) → MayAnswer old (Unplugs station) (answer_of_unplug result) new
unplug-served old new station result accepted names entries same = search rules

pub unplug-early : {X : Type 0} (found : Option CoreFault) (result : Result X CoreFault) → OnOk result (found ≡ None) → IfErr result (λ fault. found ≡ Some fault)
    → IfSome found (λ fault. answer_of_unplug result ≡ answer.Refused fault)
unplug-early found result accepted names = search rules

-- ready tasks

pub ready-served : (old new : History) (tasks : List ℕ) (result : Result Answer CoreFault) → IfOk result (λ answer_given. answer_given ≡ answer_to old (SendsReady tasks))
    → IfErr result (λ found. found ≢ fault.Memory → lowest (ready_faults old tasks) ≡ Some found) → OnOk result (new ≡ entries_after old (SendsReady tasks)) → OnErr result (new ≡ old) → MayAnswer old (SendsReady tasks) (answer_of result) new
ready-served old new tasks result answers names entries same = search rules
