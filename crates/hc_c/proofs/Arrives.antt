-- What C gets for an arrival, by what the core's call and the reader say.
use Rattle.std.proofs.Common.{◌≡◌, ◌≢◌, ℕ, ◌+◌, ◌*◌, ◌<◌, ◌≤◌, List, [], ◌∷◌, length, refl, sym, ap, ◌∙◌, subst, arith, inl, Option, Some, None}
use Rattle.std.specs.Prelude.{All, Ok, Result}
use Rattle.core.specs.declared.alloc.AllocError.{AllocError}
use Rattle.std.proofs.lemmas.List.Elements.{All-head, All-tail}
use Rattle.hc_records.specs.Edits.{over_limit_task}
use Rattle.hc_records.specs.Line.{State, groups_of, line}
use Rattle.hc_records.specs.Project.{lowest_fault}
use Rattle.hc_frames.specs.declared.reading.faults.FrameFault.{FrameFault}
use Rattle.hc_frames.specs.declared.reading.faults.FrameFault.TheVariants.{Short, NotEtherCat, BadType, BadLength, Circulating, MoreFollows, UnknownCommand, IndexMismatch}
use Rattle.hc_frames.specs.Arrived.{fault_in, placed_from, reading_of}
use Rattle.hc_frames.specs.FrameText.{WireDatagram}
use Rattle.hc_places.specs.Table.{table_of}
use Rattle.hc_events.specs.declared.answer.Answer.{Answer}
use Rattle.hc_events.specs.declared.answer.Answer.TheVariants as answer
use Rattle.hc_events.specs.declared.answer.Arrived.{Arrived}
use Rattle.hc_events.specs.declared.answer.Arrived.TheVariants as arrived
use Rattle.hc_events.specs.declared.answer.Outcome as core
use Rattle.hc_events.specs.Accepted.{IsReachable}
use Rattle.hc_events.specs.Answering.{Judged, judged_by}
use Rattle.hc_events.specs.Arrivals.{arrival_in, read_unless}
use Rattle.hc_events.specs.Calls.{MayAnswer}
use Rattle.hc_events.specs.Entries.{History}
use Rattle.hc_events.specs.Faults.{core_fault_number, frame_refusal}
use Rattle.hc_events.specs.Outcomes.{arrived_answer}
use Rattle.hc_events.specs.Points.{state_of}
use Rattle.hc_events.specs.Steps.{Arrives as ArrivesStep, answer_to, arrival_answer, entries_after, judged_answer, with_arrival}
use Rattle.hc_core.proofs.lemmas.Arriving.{stale-leaves}
use Rattle.hc_c.specs.Arrivals.{Arrives, ArrivesAs, after_arrival, answer_number, arrival_as, arrival_of, bytes_judged, counted_in, outcomes_out, serial_borne}
use Rattle.hc_c.specs.declared.arriving.Arrival.{Arrival}
use Rattle.hc_c.specs.declared.arriving.Outcome.{Outcome}
use Rattle.hc_c.specs.declared.arriving.TheConstants.{OF_BLOCKS, OF_TASKS}
use Rattle.hc_c.specs.declared.embedded.Embedded.{Embedded}
use Rattle.hc_c.specs.Counts.{Counts, all_judged}
use Rattle.hc_c.specs.Embedded.{embedded_discarding, embedded_history, with_counts}
use Rattle.hc_c.specs.Lists.{put_first}
use Rattle.hc_c.specs.Returned.{IsInFrame, answered_as, arrival_out, counted_as}
use Rattle.hc_c.proofs.Returned.{blocks-counted, blocks-reported, judged-few, outcomes-reported, tasks-counted}

-- nothing is put
pub put-nothing : {X : Type 0} (list : List X) → put_first [] list ≡ list
put-nothing [] = refl
put-nothing (x ∷ list) = refl

-- bytes that can't be read

fault_low : (fault : FrameFault) → core_fault_number (frame_refusal fault) ≤ 27
fault_low Short = omega arith
fault_low NotEtherCat = omega arith
fault_low BadType = omega arith
fault_low BadLength = omega arith
fault_low Circulating = omega arith
fault_low MoreFollows = omega arith
fault_low UnknownCommand = omega arith
fault_low IndexMismatch = omega arith

pub fault-other : (fault : FrameFault) (number : ℕ) → number ≡ core_fault_number (frame_refusal fault) → number ≢ 253
fault-other fault number is e = omega (arith, e, is, fault_low fault)

pub refused-arrives : (old : Embedded) (bytes : List ℕ) (fault : FrameFault) (number : ℕ) (before : List Outcome) (whole : Arrival) → fault_in bytes ≡ Some fault
    → number ≡ core_fault_number (frame_refusal fault) → Arrives old old bytes number before before whole whole
refused-arrives old bytes fault number before whole is numbered =
    let history = embedded_history old in
    let given : answer_to history (ArrivesStep bytes) ≡ answer.Refused (frame_refusal fault) = ap (λ (one : Option FrameFault). arrival_answer history (read_unless one (reading_of bytes))) is in
    let may : MayAnswer history (ArrivesStep bytes) (answer.Refused (frame_refusal fault)) history = inl (record {
      answer = sym given;
      entries = sym (ap (λ (one : Option FrameFault). with_arrival history (read_unless one (reading_of bytes))) is);
    }) in
    subst (λ (one : Answer). ArrivesAs one old old bytes number before before whole whole) (sym given) (record {
      numbered = numbered;
      line = refl;
      outcomes = sym (put-nothing before);
      arrival_is = refl;
      stale = stale-leaves history history (ArrivesStep bytes) (answer.Refused (frame_refusal fault)) may;
    })

-- what was read

pub record IsDone (old new : History) (bytes : List ℕ) (which : Arrived) (list : List core.Outcome) (state : State) : Type 0 where
  pub none : fault_in bytes ≡ None
  pub answer : arrived_answer which list ≡ answer_to old (ArrivesStep bytes)
  pub entries : new ≡ entries_after old (ArrivesStep bytes)
  pub reachable : IsReachable new
  pub state_is : state ≡ state_of new
  pub project : lowest_fault (groups_of state.groups) ≡ None
  pub uncrowded : over_limit_task (line state) ≡ None

read_ok : (bytes : List ℕ) → fault_in bytes ≡ None → arrival_in bytes ≡ Ok (reading_of bytes)
read_ok bytes none = ap (λ (one : Option FrameFault). read_unless one (reading_of bytes)) none

answered_read : (old : History) (bytes : List ℕ) (given : Answer) → fault_in bytes ≡ None → given ≡ answer_to old (ArrivesStep bytes) → judged_answer (judged_by old (reading_of bytes)) ≡ given
answered_read old bytes given none is = sym (is ∙ ap (arrival_answer old) (read_ok bytes none))

-- the record before such an arrival is one that events lead to too
reachable_before : (old new : History) (bytes : List ℕ) → fault_in bytes ≡ None → new ≡ entries_after old (ArrivesStep bytes) → IsReachable new → IsReachable old
reachable_before old new bytes none grown reachable =
    let is = subst IsReachable (grown ∙ ap (with_arrival old) (read_ok bytes none)) reachable in
    record { accepted = is.accepted.1; few = is.few }

state_before : (old new : History) (bytes : List ℕ) → fault_in bytes ≡ None → new ≡ entries_after old (ArrivesStep bytes) → state_of new ≡ state_of old
state_before old new bytes none grown = ap state_of (grown ∙ ap (with_arrival old) (read_ok bytes none))

outcomes_are : (old new : History) (bytes : List ℕ) (which : Arrived) (list : List core.Outcome) (state : State) → IsDone old new bytes which list state
    → answered_as which (table_of (line state)) list (placed_from 16 (reading_of bytes).parts) ≡ outcomes_out (arrived_answer which list) (judged_by old (reading_of bytes))
outcomes_are old new bytes arrived.Answered list state done =
    outcomes-reported old state (reading_of bytes) list (reachable_before old new bytes done.none done.entries done.reachable) (done.state_is ∙ state_before old new bytes done.none done.entries) done.project done.uncrowded
    (answered_read old bytes (answer.Answered list) done.none done.answer)
outcomes_are old new bytes arrived.Written list state done = blocks-reported old (reading_of bytes) (answer.Written list) (answered_read old bytes (answer.Written list) done.none done.answer) refl
outcomes_are old new bytes arrived.WriteDone list state done = blocks-reported old (reading_of bytes) answer.WriteDone (answered_read old bytes answer.WriteDone done.none done.answer) refl
outcomes_are old new bytes arrived.WriteMissed list state done = blocks-reported old (reading_of bytes) answer.WriteMissed (answered_read old bytes answer.WriteMissed done.none done.answer) refl
outcomes_are old new bytes arrived.Stale list state done = refl

-- those of tasks are counted
counted_are : (old new : History) (bytes : List ℕ) (which : Arrived) (list : List core.Outcome) (state : State) → IsDone old new bytes which list state
    → counted_as which (table_of (line state)) list (placed_from 16 (reading_of bytes).parts) ≡ counted_in (arrived_answer which list) (judged_by old (reading_of bytes))
counted_are old new bytes arrived.Answered list state done = outcomes_are old new bytes arrived.Answered list state done
counted_are old new bytes arrived.Written list state done = refl
counted_are old new bytes arrived.WriteDone list state done = refl
counted_are old new bytes arrived.WriteMissed list state done = refl
counted_are old new bytes arrived.Stale list state done = refl

-- the arrival as a whole
whole_is : (old new : History) (bytes : List ℕ) (which : Arrived) (list : List core.Outcome) (state : State) (whole : Arrival) → IsDone old new bytes which list state
    → arrival_out which (length list) (reading_of bytes).serial ≡ arrival_of (arrived_answer which list) (reading_of bytes).serial (judged_by old (reading_of bytes)) whole
whole_is old new bytes arrived.Answered list state whole done =
    ap (λ count. arrival_as (reading_of bytes).serial count OF_TASKS) (tasks-counted old (reading_of bytes) list (answered_read old bytes (answer.Answered list) done.none done.answer))
whole_is old new bytes arrived.Written list state whole done =
    ap (λ count. arrival_as (reading_of bytes).serial count OF_BLOCKS) (blocks-counted old (reading_of bytes) (answer.Written list) (answered_read old bytes (answer.Written list) done.none done.answer) refl)
whole_is old new bytes arrived.WriteDone list state whole done =
    ap (λ count. arrival_as (reading_of bytes).serial count OF_BLOCKS) (blocks-counted old (reading_of bytes) answer.WriteDone (answered_read old bytes answer.WriteDone done.none done.answer) refl)
whole_is old new bytes arrived.WriteMissed list state whole done =
    ap (λ count. arrival_as (reading_of bytes).serial count OF_BLOCKS) (blocks-counted old (reading_of bytes) answer.WriteMissed (answered_read old bytes answer.WriteMissed done.none done.answer) refl)
whole_is old new bytes arrived.Stale list state whole done = refl

numbered_by : (which : Arrived) (list : List core.Outcome) → 0 ≡ answer_number (arrived_answer which list)
numbered_by arrived.Answered list = refl
numbered_by arrived.WriteDone list = refl
numbered_by arrived.WriteMissed list = refl
numbered_by arrived.Stale list = refl
numbered_by arrived.Written list = refl

-- the line after it

line_by : (which : Arrived) (list : List core.Outcome) (bytes : List ℕ) (old : Embedded)
    → with_counts (embedded_discarding old (entries_after (embedded_history old) (ArrivesStep bytes))) (all_judged old.counts (counted_in (arrived_answer which list) (bytes_judged (embedded_history old) (arrival_in bytes))))
    ≡ after_arrival (arrived_answer which list) bytes old
line_by arrived.Answered list bytes old = refl
line_by arrived.WriteDone list bytes old = refl
line_by arrived.WriteMissed list bytes old = refl
line_by arrived.Stale list bytes old = refl
line_by arrived.Written list bytes old = refl

pub done-arrives : (old new : Embedded) (bytes : List ℕ) (which : Arrived) (list : List core.Outcome) (state : State) (before after : List Outcome) (whole whole' : Arrival) (counts : Counts)
    → IsDone (embedded_history old) (embedded_history new) bytes which list state
    → after ≡ put_first (answered_as which (table_of (line state)) list (placed_from 16 (reading_of bytes).parts)) before → whole' ≡ arrival_out which (length list) (reading_of bytes).serial
    → counts ≡ all_judged old.counts (counted_as which (table_of (line state)) list (placed_from 16 (reading_of bytes).parts))
    → new ≡ with_counts (embedded_discarding old (entries_after (embedded_history old) (ArrivesStep bytes))) counts
    → Arrives old new bytes 0 before after whole whole'
done-arrives old new bytes which list state before after whole whole' counts done puts writes counted lined =
    let history = embedded_history old in
    let given = arrived_answer which list in
    let read = read_ok bytes done.none in
    let may : MayAnswer history (ArrivesStep bytes) given (embedded_history new) = inl (record { answer = done.answer; entries = done.entries }) in
    let judged : judged_by history (reading_of bytes) ≡ bytes_judged history (arrival_in bytes) = sym (ap (bytes_judged history) read) in
    let serial : (reading_of bytes).serial ≡ serial_borne (arrival_in bytes) = sym (ap serial_borne read) in
    subst (λ (one : Answer). ArrivesAs one old new bytes 0 before after whole whole') done.answer (record {
      numbered = numbered_by which list;
      line = lined
          ∙ ap (with_counts (embedded_discarding old (entries_after history (ArrivesStep bytes)))) (counted ∙ ap (all_judged old.counts) (counted_are history (embedded_history new) bytes which list state done)
          ∙ ap (λ (all : List Judged). all_judged old.counts (counted_in given all)) judged)
          ∙ line_by which list bytes old;
      outcomes = puts ∙ ap (λ (one : List Outcome). put_first one before) (outcomes_are history (embedded_history new) bytes which list state done) ∙ ap (λ (all : List Judged). put_first (outcomes_out given all) before) judged;
      arrival_is = writes ∙ whole_is history (embedded_history new) bytes which list state whole done ∙ ap (λ n. arrival_of given n (judged_by history (reading_of bytes)) whole) serial
          ∙ ap (λ (all : List Judged). arrival_of given (serial_borne (arrival_in bytes)) all whole) judged;
      stale = stale-leaves history (embedded_history new) (ArrivesStep bytes) given may;
    })

-- a frame has few datagrams, and its answer few outcomes

parts_few : (start : ℕ) (parts : List WireDatagram) → start ≤ 2064 → All IsInFrame (placed_from start parts) → start + 12 * length parts ≤ 2064
parts_few start [] low all = omega (arith, low)
parts_few start (part ∷ parts) low all =
    let here = All-head IsInFrame (record { start = start; carried = part }) (placed_from (start + (12 + length part.bytes)) parts) all in
    let rest = parts_few (start + (12 + length part.bytes)) parts here (All-tail IsInFrame (record { start = start; carried = part }) (placed_from (start + (12 + length part.bytes)) parts) all) in
    omega (arith, rest)

none_few : (list : List core.Outcome) → list ≡ [] → length list < 65536
none_few list is = subst (λ (one : List core.Outcome). length one < 65536) (sym is) (omega arith)

few_by : (n judged parts : ℕ) → n ≡ judged → judged ≤ parts → 16 + 12 * parts ≤ 2064 → n < 65536
few_by n judged parts same less few = omega (arith, same, less, few)

pub outcomes-few : (old : History) (bytes : List ℕ) (which : Arrived) (list : List core.Outcome) → fault_in bytes ≡ None → arrived_answer which list ≡ answer_to old (ArrivesStep bytes)
    → All IsInFrame (placed_from 16 (reading_of bytes).parts) → (which ≢ arrived.Answered → which ≢ arrived.Written → list ≡ []) → length list < 65536
outcomes-few old bytes arrived.Answered list none is all empty =
    few_by (length list) (length (judged_by old (reading_of bytes))) (length (reading_of bytes).parts) (tasks-counted old (reading_of bytes) list (answered_read old bytes (answer.Answered list) none is))
    (judged-few old (reading_of bytes)) (parts_few 16 (reading_of bytes).parts (omega arith) all)
outcomes-few old bytes arrived.Written list none is all empty =
    few_by (length list) (length (judged_by old (reading_of bytes))) (length (reading_of bytes).parts) (blocks-counted old (reading_of bytes) (answer.Written list) (answered_read old bytes (answer.Written list) none is) refl)
    (judged-few old (reading_of bytes)) (parts_few 16 (reading_of bytes).parts (omega arith) all)
outcomes-few old bytes arrived.WriteDone list none is all empty = none_few list (empty (λ e. cc) (λ e. cc))
outcomes-few old bytes arrived.WriteMissed list none is all empty = none_few list (empty (λ e. cc) (λ e. cc))
outcomes-few old bytes arrived.Stale list none is all empty = none_few list (empty (λ e. cc) (λ e. cc))

pub same_ok : {one other : Arrived} → ◌≡◌ {A = Result Arrived AllocError} (Ok one) (Ok other) → one ≡ other
same_ok e = cc
