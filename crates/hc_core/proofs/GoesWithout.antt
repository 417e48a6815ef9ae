-- Events whose answers leave nothing can be left out.
use Rattle.std.proofs.Common.{◌≡◌, Bool, true, false, cond, not, List, [], ◌∷◌, refl, sym, ap, ◌∙◌, Option, rules}
use Rattle.std.specs.Prelude.{Result}
use Rattle.hc_records.specs.Edits.{state_after}
use Rattle.hc_frames.specs.declared.reading.faults.FrameFault.{FrameFault}
use Rattle.hc_events.specs.declared.answer.Answer.{Answer}
use Rattle.hc_events.specs.declared.answer.Answer.TheVariants as answer
use Rattle.hc_events.specs.declared.faults.CoreFault.{CoreFault}
use Rattle.hc_events.specs.Answering.{Judged}
use Rattle.hc_events.specs.Arrivals.{Arrival, arrival_in}
use Rattle.hc_events.specs.Calls.{MayAnswer}
use Rattle.hc_events.specs.Entries.{History, Edited}
use Rattle.hc_events.specs.Points.{state_of}
use Rattle.hc_events.specs.Stale.{without_stale}
use Rattle.hc_events.specs.Steps.{Step, Edits, Posts, PostsSteady, SendsTasks, SendsWrite, Arrives, Reads, Forgets, answer_to, answers_to, edit_refused, entries_after, entries_after_all, unless_fault, judged_answer, arrival_answer, edit_answer, unless, with_arrival, SendsWrites, SendsFurther, SendsReady, Clears, Unplugs}
use Rattle.hc_events.proofs.lemmas.SameAfter.{SameWithout, same-after, same-answer, same-says, same-stale}
use Rattle.hc_core.specs.LastData.{GoesWithoutThem, answers_left, events_left, leaves_nothing}
use Rattle.hc_core.specs.Serving.{MayAnswerAll}
use Rattle.hc_core.proofs.AnswerGiven.{answer_given-stale}

-- an event whose answer leaves nothing leaves the record as it was, but for a stale arrival

never : {A : Type 0} (answer_given : Answer) → leaves_nothing answer_given ≡ false → leaves_nothing answer_given ≡ true → A
never answer_given plain e = search rules

refused_keeps : (refused : Option CoreFault) (history next : History) (answer_given : Answer) → leaves_nothing answer_given ≡ false → leaves_nothing (unless refused answer_given) ≡ true → unless_fault refused history next ≡ history
refused_keeps refused history next answer_given plain e = search rules

answered_stale : (datagrams : List Judged) → leaves_nothing (judged_answer datagrams) ≡ true → judged_answer datagrams ≡ answer.Stale
answered_stale datagrams e = search rules

arrival_keeps : (history : History) (read : Result Arrival FrameFault) → leaves_nothing (arrival_answer history read) ≡ true → SameWithout (with_arrival history read) history
arrival_keeps history read e = search (rules, same-stale, answer_given-stale, answered_stale)

step_keeps : (history : History) (step : Step) → leaves_nothing (answer_to history step) ≡ true → SameWithout (entries_after history step) history
step_keeps history (Edits edit) e =
    ap without_stale (refused_keeps (edit_refused history edit) history (Edited edit ∷ history) (edit_answer (state_of history) (state_after (state_of history) edit)) refl e)
step_keeps history (Posts task epoch bytes) e = search rules
step_keeps history (PostsSteady task epoch bytes) e = search rules
step_keeps history (SendsTasks tasks) e = search rules
step_keeps history SendsWrite e = search rules
step_keeps history SendsWrites e = search rules
step_keeps history (Arrives bytes) e = arrival_keeps history (arrival_in bytes) e
step_keeps history (Reads task) e = refl
step_keeps history (Forgets station) e = search rules
step_keeps history (SendsReady tasks) e = search rules
step_keeps history (Clears station) e = search rules
step_keeps history (Unplugs station) e = search rules
step_keeps history SendsFurther e = search rules

one_keeps : (history next : History) (step : Step) (answer_given : Answer) → MayAnswer history step answer_given next → leaves_nothing answer_given ≡ true → SameWithout next history
one_keeps history next step answer_given may e = search (rules, step_keeps)

-- the others

-- both records go the same way
record Along (history slim next : History) (step : Step) (answer_given : Answer) : Type 0 where
  answer_is : answer_to slim step ≡ answer_given
  same : SameWithout next (entries_after slim step)

one_goes : (history slim next : History) (step : Step) (answer_given : Answer) → SameWithout history slim → MayAnswer history step answer_given next → leaves_nothing answer_given ≡ false → Along history slim next step answer_given
one_goes history slim next step answer_given same may plain = search (rules, same-answer, same-after, never)

record Goes (slim : History) (steps : List Step) (answers : List Answer) (next : History) : Type 0 where
  answers_are : answers_to slim steps ≡ answers
  same : SameWithout (entries_after_all slim steps) next

abbrev GoesOn : History → List Step → List Answer → History → Type 0
GoesOn slim steps answers next = Goes slim (events_left steps answers) (answers_left answers) next

goes_on : (history slim between next : History) (step : Step) (steps : List Step) (answer_given : Answer) (answers : List Answer) (nothing : Bool) → leaves_nothing answer_given ≡ nothing → SameWithout history slim → MayAnswer history step answer_given between
    → ((slim' : History) → SameWithout between slim' → GoesOn slim' steps answers next)
    → Goes slim (cond nothing (events_left steps answers) (step ∷ events_left steps answers)) (cond (not nothing) (answer_given ∷ answers_left answers) (answers_left answers)) next
goes_on history slim between next step steps answer_given answers true is same one rest = rest slim (one_keeps history between step answer_given one is ∙ same)
goes_on history slim between next step steps answer_given answers false is same one rest =
    let along = one_goes history slim between step answer_given same one is in
    let later = rest (entries_after slim step) along.same in
    search rules

all_go : (history slim next : History) (steps : List Step) (answers : List Answer) → SameWithout history slim → MayAnswerAll history steps answers next → GoesOn slim steps answers next
all_go history slim next [] [] same all = record { answers_are = refl; same = sym (ap without_stale all ∙ same) }
all_go history slim next [] (answer_given ∷ answers) same all = absurd all
all_go history slim next (step ∷ steps) [] same all = absurd all
all_go history slim next (step ∷ steps) (answer_given ∷ answers) same all =
    goes_on history slim all.0 next step steps answer_given answers (leaves_nothing answer_given) refl same all.1 (λ slim' same'. all_go all.0 slim' next steps answers same' all.2)

pub goes-without : (history next : History) (steps : List Step) (answers : List Answer) → MayAnswerAll history steps answers next → GoesWithoutThem history steps answers next
goes-without history next steps answers all =
    let goes = all_go history history next steps answers refl all in
    search (rules, same-says)
