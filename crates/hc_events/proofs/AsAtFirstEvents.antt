-- Events other than forgetting a slave and several writes in a frame are answered as they were.
use Rattle.std.proofs.Common.{◌≡◌, ℕ, Bool, not, List, [], ◌∷◌, length, map, refl, ap, ◌∙◌, Option, Some, None}
use Rattle.std.specs.Prelude.{nat_lt, Result, Ok, Err}
use Rattle.std.specs.List.{list_any, range_with_len}
use Rattle.hc_records.specs.declared.records.Group.{Group}
use Rattle.hc_records.specs.Lists.{lowest}
use Rattle.hc_records.specs.Image.{datagram_count, task_places}
use Rattle.hc_registers.specs.Blocks.{LineBlock}
use Rattle.hc_frames.specs.declared.reading.faults.FrameFault.{FrameFault}
use Rattle.hc_events.specs.declared.answer.Answer.TheVariants as answer
use Rattle.hc_events.specs.declared.faults.CoreFault.{CoreFault}
use Rattle.hc_events.specs.declared.faults.CoreFault.TheVariants.{NoSuchTask, SerialsSpent, Unprogrammed}
use Rattle.hc_events.specs.Accepted.{just_opened}
use Rattle.hc_events.specs.Answering.{sending_of}
use Rattle.hc_events.specs.Arrivals.{Arrival, arrival_in}
use Rattle.hc_events.specs.Entries.{History, Edited, Posted, Sent}
use Rattle.hc_events.specs.Forgetting.{AreAnsweredAsAtFirst}
use Rattle.hc_events.specs.Images.{slot_of}
use Rattle.hc_events.specs.Points.{epoch_of, line_of, next_serial}
use Rattle.hc_events.specs.Sendings.{Frame}
use Rattle.hc_events.specs.Steps.{edit_refused, has_serials, is_no_task, unless_fault, answer_to, answers_to, entries_after, entries_after_all, post_faults, proposal, read_faults, sent_text, arrival_answer, sent_write_answer, unless, with_arrival, with_sent, with_write, write_faults}
use Rattle.hc_events.specs.WithoutForgetting.{FirstStep, Edits, Posts, SendsTasks, SendsWrite, Arrives, Reads, step_of}
use Rattle.hc_events.specs.WithoutForgetting as first
use Rattle.hc_events.proofs.AsAtFirst.{AsAtFirst, same-judged, same-owed, same_slot, answered_if}

-- events

same_answered : (history : History) (read : Result Arrival FrameFault) → AsAtFirst history → first.arrival_answer history read ≡ arrival_answer history read
same_answered history (Err fault) kind = refl
same_answered history (Ok arrival) kind = ap first.judged_answer (same-judged history arrival kind) ∙ answered_if history arrival (sending_of history arrival.serial) refl kind.1

same_slots : (history : History) (task : ℕ) (numbers : List ℕ) → AsAtFirst history → map (first.slot_of history task) numbers ≡ map (slot_of history task) numbers
same_slots history task [] kind = refl
same_slots history task (d ∷ numbers) kind =
    ap (λ slot. slot ∷ map (first.slot_of history task) numbers) (same_slot history task d kind.0 kind.1) ∙ ap (λ slots. slot_of history task d ∷ slots) (same_slots history task numbers kind)

abbrev task_faults_with : History → List ℕ → List LineBlock → List (Bool × CoreFault)
task_faults_with history tasks blocks =
    (list_any is_no_task tasks, NoSuchTask) ∷ (nat_lt 0 (length blocks), Unprogrammed (length blocks)) ∷ (not (has_serials history (length (proposal history tasks))), SerialsSpent) ∷ []

answer-first : (history : History) (step : FirstStep) → AsAtFirst history → first.answer_to history step ≡ answer_to history (step_of step)
answer-first history (Edits edit) kind = refl
answer-first history (Posts task epoch bytes) kind = refl
answer-first history (SendsTasks tasks) kind =
    ap (λ blocks. unless (lowest (task_faults_with history tasks blocks)) (answer.Sent (map (sent_text history) (proposal history tasks)))) (same-owed history kind)
answer-first history SendsWrite kind = ap (λ blocks. unless (lowest (write_faults history blocks)) (sent_write_answer (next_serial history) blocks)) (same-owed history kind)
answer-first history (Arrives bytes) kind = same_answered history (arrival_in bytes) kind
answer-first history (Reads task) kind =
    ap (λ slots. unless (lowest (read_faults task)) (answer.Image (epoch_of history) slots)) (same_slots history task (range_with_len 0 (datagram_count (task_places task (line_of history)))) kind)

entries-first : (history : History) (step : FirstStep) → AsAtFirst history → first.entries_after history step ≡ entries_after history (step_of step)
entries-first history (Edits edit) kind = refl
entries-first history (Posts task epoch bytes) kind = refl
entries-first history (SendsTasks tasks) kind = ap (λ blocks. unless_fault (lowest (task_faults_with history tasks blocks)) history (with_sent history (proposal history tasks))) (same-owed history kind)
entries-first history SendsWrite kind = ap (λ blocks. unless_fault (lowest (write_faults history blocks)) history (with_write history blocks)) (same-owed history kind)
entries-first history (Arrives bytes) kind = refl
entries-first history (Reads task) kind = refl

-- and none of them forgets a slave or writes more than one block

as_if : (refused : Option CoreFault) (history next : History) → AsAtFirst history → AsAtFirst next → AsAtFirst (unless_fault refused history next)
as_if None history next before after = after
as_if (Some fault) history next before after = before

as_sent : (frames : List Frame) (history : History) → AsAtFirst history → AsAtFirst (with_sent history frames)
as_sent [] history kind = kind
as_sent (frame ∷ frames) history kind = as_sent frames (Sent frame.datagrams ∷ history) (kind.0, kind.1)

as_write : (blocks : List LineBlock) (history : History) → AsAtFirst history → AsAtFirst (with_write history blocks)
as_write [] history kind = kind
as_write (block ∷ blocks) history kind = (kind.0, kind.1)

as_arrival : (read : Result Arrival FrameFault) (history : History) → AsAtFirst history → AsAtFirst (with_arrival history read)
as_arrival (Err fault) history kind = kind
as_arrival (Ok arrival) history kind = (kind.0, kind.1)

as_after : (history : History) (step : FirstStep) → AsAtFirst history → AsAtFirst (first.entries_after history step)
as_after history (Edits edit) kind = as_if (edit_refused history edit) history (Edited edit ∷ history) kind (kind.0, kind.1)
as_after history (Posts task epoch bytes) kind = as_if (lowest (post_faults history task epoch bytes)) history (Posted task bytes ∷ history) kind (kind.0, kind.1)
as_after history (SendsTasks tasks) kind =
    as_if (lowest (first.task_faults history tasks)) history (with_sent history (proposal history tasks)) kind (as_sent (proposal history tasks) history kind)
as_after history SendsWrite kind =
    as_if (lowest (write_faults history (first.owed_blocks history))) history (with_write history (first.owed_blocks history)) kind (as_write (first.owed_blocks history) history kind)
as_after history (Arrives bytes) kind = as_arrival (arrival_in bytes) history kind
as_after history (Reads task) kind = kind

answers_first : (history : History) (steps : List FirstStep) → AsAtFirst history → first.answers_to history steps ≡ answers_to history (map step_of steps)
answers_first history [] kind = refl
answers_first history (step ∷ steps) kind =
    ap (λ answer_given. answer_given ∷ first.answers_to (first.entries_after history step) steps) (answer-first history step kind)
    ∙ ap (λ answers. answer_to history (step_of step) ∷ answers) (answers_first (first.entries_after history step) steps (as_after history step kind))
    ∙ ap (λ next. answer_to history (step_of step) ∷ answers_to next (map step_of steps)) (entries-first history step kind)

entries_first : (history : History) (steps : List FirstStep) → AsAtFirst history → first.entries_after_all history steps ≡ entries_after_all history (map step_of steps)
entries_first history [] kind = refl
entries_first history (step ∷ steps) kind =
    entries_first (first.entries_after history step) steps (as_after history step kind)
    ∙ ap (λ next. entries_after_all next (map step_of steps)) (entries-first history step kind)

pub answered-first : (groups : List Group) (steps : List FirstStep) → AreAnsweredAsAtFirst groups steps
answered-first groups steps = record { answers = answers_first (just_opened groups) steps (refl, refl); entries = entries_first (just_opened groups) steps (refl, refl) }
