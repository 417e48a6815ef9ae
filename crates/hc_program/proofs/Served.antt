-- Events that a core served: what their answers print, and that a refused one leaves the record.
use Rattle.std.proofs.Common.{◌≡◌, ◌≢◌, ◌≤◌, ℕ, Bool, true, false, cond, List, [], ◌∷◌, map, length, refl, sym, ap, subst, ◌∙◌, inl, inr, arith, Option, Some, None, Ok, Err}
use Rattle.std.specs.Prelude.{Result}
use Rattle.std.specs.Option.{option_map_or}
use Rattle.std.proofs.lemmas.List.{length-map}
use Rattle.std.proofs.lemmas.Slice.Zip.{length-zip}
use Rattle.std.specs.List.{list_any, zip}
use Rattle.hc_records.specs.declared.edit.Edit.{Edit}
use Rattle.hc_frames.specs.declared.reading.faults.FrameFault.{FrameFault}
use Rattle.hc_events.specs.declared.answer.Answer.{Answer}
use Rattle.hc_events.specs.declared.answer.Answer.TheVariants as answer
use Rattle.hc_events.specs.declared.faults.CoreFault.{CoreFault}
use Rattle.hc_events.specs.declared.faults.CoreFault.TheVariants.{Memory}
use Rattle.hc_events.specs.declared.answer.Outcome.{Outcome}
use Rattle.hc_events.specs.Answering.{Judged, Sending, Verdict, Good, Wrong, Stale, answered_by, is_current, judge, judged, judged_by}
use Rattle.hc_events.specs.Arrivals.{Arrival, arrival_in}
use Rattle.hc_events.specs.Calls.{IsAnswered, MayAnswer}
use Rattle.hc_events.specs.Entries.{History, Edited}
use Rattle.hc_events.specs.Heads.{is_block}
use Rattle.hc_events.specs.Points.{next_serial, state_of}
use Rattle.hc_events.specs.Steps.{Step, Arrives, Edits, answer_to, edit_refused, entries_after, unless_fault, outcome_for, judged_answer, arrival_answer, write_answer, judged_blocks_answer, edit_answer, unless, with_arrival}
use Rattle.hc_records.specs.Edits.{state_after}
use Rattle.hc_records.specs.Line.{State}
use Rattle.hc_segment.specs.Machines.{machines_after_edit}
use Rattle.hc_program.specs.Answers.{answer_text, event_text}
use Rattle.hc_program.specs.Standings.{SessionState, session_edited, edited_unless, with_machines, session_with_history}

-- an answer other than `Memory` is the event's
answered : (history next : History) (step : Step) (given : Answer) → MayAnswer history step given next → given ≢ answer.Refused Memory → IsAnswered history step given next
answered history next step given (inl is) other = is
answered history next step given (inr wanting) other = absurd (other wanting.answer)

pub other_fault : (fault : CoreFault) → fault ≢ Memory → answer.Refused fault ≢ answer.Refused Memory
other_fault fault other e = let same : fault ≡ Memory = cc in other same

-- so it is printed, and so the record is left
pub printed_as : (history next : History) (step : Step) (given : Answer) → MayAnswer history step given next → given ≢ answer.Refused Memory → event_text history step ≡ answer_text (next_serial history) given
unfolding event_text
printed_as history next step given may other = sym (ap (answer_text (next_serial history)) (answered history next step given may other).answer)

left_as : (history next : History) (step : Step) (given : Answer) → MayAnswer history step given next → given ≢ answer.Refused Memory → next ≡ entries_after history step
left_as history next step given may other = (answered history next step given may other).entries

-- a refused event leaves the history, whether its own fault refuses it or `Memory`
pub refused_stays : (history next : History) (step : Step) (fault : CoreFault) → (answer_to history step ≡ answer.Refused fault → entries_after history step ≡ history) → MayAnswer history step (answer.Refused fault) next → next ≡ history
refused_stays history next step fault stays (inl is) = is.entries ∙ stays (sym is.answer)
refused_stays history next step fault stays (inr wanting) = wanting.entries

abbrev is_refusal : Answer → Bool
is_refusal (answer.Refused fault) = true
is_refusal _ = false

unless_stays : (found : Option CoreFault) (given : Answer) (fault : CoreFault) (history next : History) → is_refusal given ≡ false → unless found given ≡ answer.Refused fault → unless_fault found history next ≡ history
unless_stays None given fault history next plain e = let is : is_refusal given ≡ true = ap is_refusal e in cc
unless_stays (Some other) given fault history next plain e = refl

-- a refused edit
pub edit_stays : (history : History) (edit : Edit) (fault : CoreFault) → answer_to history (Edits edit) ≡ answer.Refused fault → entries_after history (Edits edit) ≡ history
edit_stays history edit fault e =
    unless_stays (edit_refused history edit) (edit_answer (state_of history) (state_after (state_of history) edit)) fault history (Edited edit ∷ history) refl e

-- where nothing but the record may have changed, and it hasn't
pub stays_put : (s next : SessionState) → next ≡ session_with_history s next.history → next.history ≡ s.history → next ≡ s
stays_put s next rest went = rest ∙ ap (session_with_history s) went

-- where an edit leaves the run

accepted : (found : Option CoreFault) (given : Answer) (epoch recut moved : ℕ) → unless found given ≡ answer.Edited epoch recut moved → found ≡ None
accepted None given epoch recut moved e = refl
accepted (Some fault) given epoch recut moved e = cc

edit_accepted : (history next : History) (edit : Edit) (epoch recut moved : ℕ) → MayAnswer history (Edits edit) (answer.Edited epoch recut moved) next → edit_refused history edit ≡ None
edit_accepted history next edit epoch recut moved may =
    accepted (edit_refused history edit) (edit_answer (state_of history) (state_after (state_of history) edit)) epoch recut moved
    (sym (answered history next (Edits edit) (answer.Edited epoch recut moved) may (λ e. cc)).answer)

pub edited_to : (s mid next : SessionState) (edit : Edit) (epoch recut moved : ℕ) → MayAnswer s.history (Edits edit) (answer.Edited epoch recut moved) mid.history → mid ≡ session_with_history s mid.history
    → next ≡ with_machines mid (machines_after_edit (state_of s.history).groups edit mid.machines) → next ≡ session_edited s edit
edited_to s mid next edit epoch recut moved may rest are =
    let none = edit_accepted s.history mid.history edit epoch recut moved may in
    let went : mid.history ≡ Edited edit ∷ s.history = left_as s.history mid.history (Edits edit) (answer.Edited epoch recut moved) may (λ e. cc) ∙ ap (λ (found : Option CoreFault). unless_fault found s.history (Edited edit ∷ s.history)) none in
    are
    ∙ ap (λ (t : SessionState). with_machines t (machines_after_edit (state_of s.history).groups edit t.machines)) (rest ∙ ap (session_with_history s) went)
    ∙ ap (λ (found : Option CoreFault). edited_unless found s edit) (sym none)

refused_by : (found : Option CoreFault) (given : Answer) (fault : CoreFault) (s : SessionState) (edit : Edit) → is_refusal given ≡ false → unless found given ≡ answer.Refused fault → edited_unless found s edit ≡ s
refused_by None given fault s edit plain e = let is : is_refusal given ≡ true = ap is_refusal e in cc
refused_by (Some other) given fault s edit plain e = refl

pub edited_same : (s next : SessionState) (edit : Edit) (fault : CoreFault) → fault ≢ Memory → MayAnswer s.history (Edits edit) (answer.Refused fault) next.history → next ≡ session_with_history s next.history → next ≡ session_edited s edit
edited_same s next edit fault other may rest =
    let is = answered s.history next.history (Edits edit) (answer.Refused fault) may (other_fault fault other) in
    let went : next.history ≡ s.history = refused_stays s.history next.history (Edits edit) fault (edit_stays s.history edit fault) may in
    stays_put s next rest went ∙ sym (refused_by (edit_refused s.history edit) (edit_answer (state_of s.history) (state_after (state_of s.history) edit)) fault s edit refl (sym is.answer))

-- an arrival that can be read is never refused

block_answered : (verdict : Verdict) → is_refusal (write_answer verdict) ≡ false
block_answered Good = refl
block_answered Wrong = refl
block_answered Stale = refl

either : (b : Bool) (one other : Answer) → is_refusal one ≡ false → is_refusal other ≡ false → is_refusal (cond b one other) ≡ false
either true one other a b = a
either false one other a b = b

blocks_answered : (all : List Judged) → is_refusal (judged_blocks_answer all) ≡ false
blocks_answered [] = refl
blocks_answered (d ∷ []) = block_answered d.verdict
blocks_answered (d ∷ e ∷ ds) = either (list_any is_current (d ∷ e ∷ ds)) (answer.Written (map outcome_for (d ∷ e ∷ ds))) answer.Stale refl refl

answered_plainly : (all : List Judged) → is_refusal (judged_answer all) ≡ false
answered_plainly [] = refl
answered_plainly (d ∷ ds) =
    let updates = answer.Answered (map outcome_for (d ∷ ds)) in
    either (is_block d.head.item) (judged_blocks_answer (d ∷ ds)) (cond (list_any is_current (d ∷ ds)) updates answer.Stale) (blocks_answered (d ∷ ds))
    (either (list_any is_current (d ∷ ds)) updates answer.Stale refl refl)

arrival_stays : (history : History) (found : Result Arrival FrameFault) (fault : CoreFault) → arrival_answer history found ≡ answer.Refused fault → with_arrival history found ≡ history
arrival_stays history (Err found) fault e = refl
arrival_stays history (Ok arrival) fault e =
    let is : is_refusal (judged_answer (judged_by history arrival)) ≡ true = ap is_refusal e in
    let never : is_refusal (judged_answer (judged_by history arrival)) ≡ false = answered_plainly (judged_by history arrival) in
    cc

-- a refused arrival
pub bytes_stay : (history : History) (bytes : List ℕ) (fault : CoreFault) → answer_to history (Arrives bytes) ≡ answer.Refused fault → entries_after history (Arrives bytes) ≡ history
bytes_stay history bytes fault e = arrival_stays history (arrival_in bytes) fault e

-- the answers to an edit, and to an arrival
abbrev pub IsOfEdit : Answer → Type 0
IsOfEdit (answer.Edited epoch recut moved) = Unit {0}
IsOfEdit (answer.Refused fault) = Unit {0}
IsOfEdit _ = ⊥

edit_given : (found : Option CoreFault) (old new : State) → IsOfEdit (unless found (edit_answer old new))
edit_given None old new = tt
edit_given (Some fault) old new = tt

pub of_edit : (history next : History) (edit : Edit) (given : Answer) → MayAnswer history (Edits edit) given next → IsOfEdit given
of_edit history next edit given (inl is) = subst IsOfEdit (sym is.answer) (edit_given (edit_refused history edit) (state_of history) (state_after (state_of history) edit))
of_edit history next edit given (inr wanting) = subst IsOfEdit (sym wanting.answer) tt

-- it is one of these
pub one_of_edit : (given : Answer) → IsOfEdit given → ((epoch recut moved : ℕ) → given ≡ answer.Edited epoch recut moved → ⊥) → ((fault : CoreFault) → given ≡ answer.Refused fault → ⊥) → ⊥
one_of_edit (answer.Edited epoch recut moved) is session_edited refused = session_edited epoch recut moved refl
one_of_edit (answer.Refused fault) is session_edited refused = refused fault refl
one_of_edit answer.Posted is session_edited refused = is
one_of_edit (answer.Sent frames) is session_edited refused = is
one_of_edit (answer.WriteSent frame) is session_edited refused = is
one_of_edit (answer.WritesSent frame) is session_edited refused = is
one_of_edit (answer.Answered outcomes) is session_edited refused = is
one_of_edit answer.WriteDone is session_edited refused = is
one_of_edit answer.WriteMissed is session_edited refused = is
one_of_edit (answer.Written outcomes) is session_edited refused = is
one_of_edit answer.Stale is session_edited refused = is
one_of_edit (answer.Image epoch slots) is session_edited refused = is
one_of_edit answer.Forgotten is session_edited refused = is
one_of_edit answer.Cleared is session_edited refused = is
one_of_edit answer.Unplugged is session_edited refused = is

-- the answers to an arrival that can be read: refused only with `Memory`
abbrev pub IsOfArrival : Answer → Type 0
IsOfArrival (answer.Answered outcomes) = Unit {0}
IsOfArrival answer.WriteDone = Unit {0}
IsOfArrival answer.WriteMissed = Unit {0}
IsOfArrival answer.Stale = Unit {0}
IsOfArrival (answer.Written outcomes) = Unit {0}
IsOfArrival (answer.Refused fault) = fault ≡ Memory
IsOfArrival _ = ⊥

block_given : (verdict : Verdict) → IsOfArrival (write_answer verdict)
block_given Good = tt
block_given Wrong = tt
block_given Stale = tt

either_given : (b : Bool) (one other : Answer) → IsOfArrival one → IsOfArrival other → IsOfArrival (cond b one other)
either_given true one other a b = a
either_given false one other a b = b

blocks_given : (all : List Judged) → IsOfArrival (judged_blocks_answer all)
blocks_given [] = tt
blocks_given (d ∷ []) = block_given d.verdict
blocks_given (d ∷ e ∷ ds) = either_given (list_any is_current (d ∷ e ∷ ds)) (answer.Written (map outcome_for (d ∷ e ∷ ds))) answer.Stale tt tt

answered_given : (all : List Judged) → IsOfArrival (judged_answer all)
answered_given [] = tt
answered_given (d ∷ ds) =
    let updates = answer.Answered (map outcome_for (d ∷ ds)) in
    either_given (is_block d.head.item) (judged_blocks_answer (d ∷ ds)) (cond (list_any is_current (d ∷ ds)) updates answer.Stale) (blocks_given (d ∷ ds))
    (either_given (list_any is_current (d ∷ ds)) updates answer.Stale tt tt)

pub of_arrival : (history next : History) (bytes : List ℕ) (arrival : Arrival) (given : Answer) → arrival_in bytes ≡ Ok arrival → MayAnswer history (Arrives bytes) given next → IsOfArrival given
of_arrival history next bytes arrival given reads (inl is) = subst IsOfArrival (sym (is.answer ∙ ap (arrival_answer history) reads)) (answered_given (judged_by history arrival))
of_arrival history next bytes arrival given reads (inr wanting) = subst IsOfArrival (sym wanting.answer) refl

-- it is one of these
pub one_of_arrival : (given : Answer) → IsOfArrival given → ((outcomes : List Outcome) → given ≡ answer.Answered outcomes → ⊥) → (given ≡ answer.WriteDone → ⊥) → (given ≡ answer.WriteMissed → ⊥)
    → (given ≡ answer.Stale → ⊥) → ((outcomes : List Outcome) → given ≡ answer.Written outcomes → ⊥) → ((fault : CoreFault) → given ≡ answer.Refused fault → ⊥) → ⊥
one_of_arrival (answer.Answered outcomes) is answered done missed stale written refused = answered outcomes refl
one_of_arrival answer.WriteDone is answered done missed stale written refused = done refl
one_of_arrival answer.WriteMissed is answered done missed stale written refused = missed refl
one_of_arrival answer.Stale is answered done missed stale written refused = stale refl
one_of_arrival (answer.Written outcomes) is answered done missed stale written refused = written outcomes refl
one_of_arrival (answer.Refused fault) is answered done missed stale written refused = refused fault refl
one_of_arrival (answer.Edited epoch recut moved) is answered done missed stale written refused = is
one_of_arrival answer.Posted is answered done missed stale written refused = is
one_of_arrival (answer.Sent frames) is answered done missed stale written refused = is
one_of_arrival (answer.WriteSent frame) is answered done missed stale written refused = is
one_of_arrival (answer.WritesSent frame) is answered done missed stale written refused = is
one_of_arrival (answer.Image epoch slots) is answered done missed stale written refused = is
one_of_arrival answer.Forgotten is answered done missed stale written refused = is
one_of_arrival answer.Cleared is answered done missed stale written refused = is
one_of_arrival answer.Unplugged is answered done missed stale written refused = is

-- an arrival is something for no more datagrams than it has

judged_few : (arrival : Arrival) (found : Option Sending) → length (option_map_or (judged arrival) found []) ≤ length arrival.parts
judged_few arrival None = omega arith
judged_few arrival (Some sending) =
    let pairs = length-map (zip sending.heads arrival.parts) (judge sending.since) in
    let zipped = length-zip sending.heads arrival.parts in
    omega (arith, pairs, zipped)

block_plain : (verdict : Verdict) (outcomes : List Outcome) → write_answer verdict ≢ answer.Answered outcomes
block_plain Good outcomes e = cc
block_plain Wrong outcomes e = cc
block_plain Stale outcomes e = cc

written_plain : (updates : Bool) (answer_given outcomes : List Outcome) → cond updates (answer.Written answer_given) answer.Stale ≢ answer.Answered outcomes
written_plain true answer_given outcomes e = cc
written_plain false answer_given outcomes e = cc

blocks_plain : (all : List Judged) (outcomes : List Outcome) → judged_blocks_answer all ≢ answer.Answered outcomes
blocks_plain [] outcomes e = cc
blocks_plain (d ∷ []) outcomes e = block_plain d.verdict outcomes e
blocks_plain (d ∷ f ∷ ds) outcomes e = written_plain (list_any is_current (d ∷ f ∷ ds)) (map outcome_for (d ∷ f ∷ ds)) outcomes e

as_many : (block updates : Bool) (all : List Judged) (outcomes : List Outcome)
    → cond block (judged_blocks_answer all) (cond updates (answer.Answered (map outcome_for all)) answer.Stale) ≡ answer.Answered outcomes → length outcomes ≡ length all
as_many true updates all outcomes e = absurd (blocks_plain all outcomes e)
as_many false true all outcomes e = let same : map outcome_for all ≡ outcomes = cc in ap length (sym same) ∙ length-map all outcome_for
as_many false false all outcomes e = cc

answered_many : (all : List Judged) (outcomes : List Outcome) → judged_answer all ≡ answer.Answered outcomes → length outcomes ≡ length all
answered_many [] outcomes e = cc
answered_many (d ∷ ds) outcomes e = as_many (is_block d.head.item) (list_any is_current (d ∷ ds)) (d ∷ ds) outcomes e

pub outcomes_few : (history next : History) (bytes : List ℕ) (arrival : Arrival) (outcomes : List Outcome) → arrival_in bytes ≡ Ok arrival → MayAnswer history (Arrives bytes) (answer.Answered outcomes) next
    → length outcomes ≤ length arrival.parts
outcomes_few history next bytes arrival outcomes reads may =
    let is = (answered history next (Arrives bytes) (answer.Answered outcomes) may (λ e. cc)).answer ∙ ap (arrival_answer history) reads in
    let many = answered_many (judged_by history arrival) outcomes (sym is) in
    let few = judged_few arrival (answered_by history arrival) in
    omega (arith, many, few)
