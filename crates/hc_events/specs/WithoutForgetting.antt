-- The words of a history in which no slave's registers are forgotten, and each register write is sent in a frame of its own.
-- These are the words as they were before there was anything else, and they stay as they are for good: a law says that the core
-- answers every such history as these words have it (`laws`). Of the blocks that a frame writes they see only the first one.
-- Words that depend on neither are those of the other files.
use Rattle.std.specs.Prelude.{ℕ, ◌==◌, ◌&&◌, ◌||◌, not, nat_lt, Bool, false, if◌then◌else◌, List, [], ◌∷◌, ◌++◌, filter, fold, length, map, Option, Some, None, option_and_then, option_map, Result, Ok, Err}
use Rattle.std.specs.Option.{option_map_or}
use Rattle.std.specs.List.{flat_map, list_all, list_any, range_with_len, zip}
use Rattle.std.specs.Str.{bytes_eq}
use Rattle.hc_records.specs.declared.edit.Edit.{Edit}
use Rattle.hc_records.specs.Lists.{lowest}
use Rattle.hc_records.specs.Image.{datagram_count, task_places}
use Rattle.hc_records.specs.Edits.{state_after}
use Rattle.hc_registers.specs.Blocks.{LineBlock, line_blocks}
use Rattle.hc_frames.specs.declared.reading.faults.FrameFault.{FrameFault}
use Rattle.hc_events.specs.declared.answer.Answer.{Answer}
use Rattle.hc_events.specs.declared.answer.Answer.TheVariants as answer
use Rattle.hc_events.specs.declared.answer.Outcome.{Outcome}
use Rattle.hc_events.specs.declared.answer.Outcome.TheVariants as outcome
use Rattle.hc_events.specs.declared.faults.CoreFault.{CoreFault}
use Rattle.hc_events.specs.declared.faults.CoreFault.TheVariants.{NoSuchTask, SerialsSpent, Unprogrammed}
use Rattle.hc_events.specs.Faults.{frame_refusal}
use Rattle.hc_events.specs.Arrivals.{Arrival, Part, arrival_in}
use Rattle.hc_events.specs.Entries.{HistoryEntry, History, Opened, Edited, Posted, Sent, Wrote, Came}
use Rattle.hc_events.specs.Points.{epoch_of, line_of, next_serial, state_of}
use Rattle.hc_events.specs.Heads.{Item, Datagram, Block, Head, block_item, data_heads, is_block, item_of, same_item, write_head}
use Rattle.hc_events.specs.Answering.{Judged, Sending, Verdict, Good, Wrong, Stale, followed_by, has_good, is_answer, is_current, sending_of_heads, only_if}
use Rattle.hc_events.specs.Awaited.{is_ended, is_no_arrival}
use Rattle.hc_events.specs.Images.{NewAnswer, new_answer, renewed}
use Rattle.hc_events.specs.Ages.{dated}
use Rattle.hc_events.specs.Changes.{Answered, Update, Swapped}
use Rattle.hc_events.specs.Owed.{is_in_line}
use Rattle.hc_events.specs.Steps.{Step, edit_refused, has_serials, is_no_task, unless_fault, post_faults, proposal, read_faults, sent_text, write_answer, edit_answer, sent_write_answer, unless, with_arrival, with_sent, with_write, write_faults}
use Rattle.hc_events.specs.Steps as now

-- the entry sends the item: it is a frame with that datagram, or a write whose first block is that block
abbrev pub sends : Item → HistoryEntry → Bool
sends item (Sent frame) = list_any (λ named. same_item item (item_of named)) frame
sends item (Wrote (block ∷ blocks)) = same_item item (block_item block)
sends item entry = false

-- the sending with a serial, which is the number of sendings before it
abbrev pub sending_of : History → ℕ → Option Sending
sending_of [] serial = None
sending_of (Opened groups ∷ history) serial = None
sending_of (Sent frame ∷ history) serial =
    if next_serial history == serial then Some (sending_of_heads (data_heads (line_of history) frame))
    else option_map (followed_by (Sent frame)) (sending_of history serial)
sending_of (Wrote (block ∷ blocks) ∷ history) serial =
    if next_serial history == serial then Some (sending_of_heads (write_head block ∷ []))
    else option_map (followed_by (Wrote (block ∷ blocks))) (sending_of history serial)
sending_of (entry ∷ history) serial = option_map (followed_by entry) (sending_of history serial)

-- the sending that an arrival answers: the one with its serial, if the arrival is an answer to it; otherwise none
abbrev pub answered_by : History → Arrival → Option Sending
answered_by history arrival = option_and_then (only_if (is_answer arrival)) (sending_of history arrival.serial)

-- the verdict on an answer to a datagram: stale if the same datagram or block was sent again since, otherwise good or wrong by
-- its working counter
abbrev pub verdict : List HistoryEntry → Head → Part → Verdict
verdict since head part =
    if list_any (sends head.item) since then Stale else (if part.counter == head.expected then Good else Wrong)

-- a head and what came back of it, with the verdict
abbrev pub judge : List HistoryEntry → Head × Part → Judged
judge since pair = record { head = pair.0; part = pair.1; verdict = verdict since pair.0 pair.1 }

-- the datagrams of a sending with those of the arrival beside them, each judged
abbrev pub judged : Arrival → Sending → List Judged
judged arrival sending = map (judge sending.since) (zip sending.heads arrival.parts)

-- the datagrams of the sending that an arrival answers; none if it answers none
abbrev pub judged_by : History → Arrival → List Judged
judged_by history arrival = option_map_or (judged arrival) (answered_by history arrival) []

-- all that these datagrams carry was sent again since
abbrev pub all_sent_again : List HistoryEntry → List Head → Bool
all_sent_again since heads = list_all (λ head. list_any (sends head.item) since) heads

-- a sending that neither ended nor was wholly sent again, without the arrivals since then
abbrev pub still_awaited : ℕ → Sending → Option Sending
still_awaited serial sending =
    if is_ended serial sending || all_sent_again sending.since sending.heads then None
    else Some (record { heads = sending.heads; since = filter is_no_arrival sending.since })

-- the awaited sending with a serial, or none
abbrev pub awaited : History → ℕ → Option Sending
awaited history serial = option_and_then (still_awaited serial) (sending_of history serial)

-- the good answers of an arrival for tasks' datagrams, in the frame's order
abbrev pub new_answer_by : History → Arrival → List NewAnswer
new_answer_by history arrival = flat_map new_answer (judged_by history arrival)

-- the data of a datagram's last good answer since the last accepted edit, or none
abbrev pub slot_of : History → ℕ → ℕ → Option (List ℕ)
slot_of [] task d = None
slot_of (Opened groups ∷ history) task d = None
slot_of (Edited edit ∷ history) task d = None
slot_of (Came arrival ∷ history) task d = fold (renewed task d) (slot_of history task d) (new_answer_by history arrival)
slot_of (entry ∷ history) task d = slot_of history task d

-- the data of each datagram that a task has in the present epoch, in order, or none
abbrev pub slots_of : History → ℕ → List (Option (List ℕ))
slots_of history task = map (slot_of history task) (range_with_len 0 (datagram_count (task_places task (line_of history))))

-- the serial of the sending that a datagram's last good answer since the last accepted edit answered, or none
abbrev pub data_serial : History → ℕ → ℕ → Option ℕ
data_serial [] task d = None
data_serial (Opened groups ∷ history) task d = None
data_serial (Edited edit ∷ history) task d = None
data_serial (Came arrival ∷ history) task d = fold (dated arrival.serial task d) (data_serial history task d) (new_answer_by history arrival)
data_serial (entry ∷ history) task d = data_serial history task d

-- the accepted edits and the good answers, the oldest first
abbrev pub updates_of : History → List Update
updates_of [] = []
updates_of (Opened groups ∷ history) = []
updates_of (Edited edit ∷ history) = updates_of history ++ Swapped edit ∷ []
updates_of (Came arrival ∷ history) = updates_of history ++ map Answered (new_answer_by history arrival)
updates_of (entry ∷ history) = updates_of history

-- the last write of a block since its slave was connected: its serial and its bytes
abbrev pub last_write : History → ℕ → ℕ → Option (ℕ × List ℕ)
last_write [] station number = None
last_write (Opened groups ∷ history) station number = None
last_write (Wrote (block ∷ blocks) ∷ history) station number =
    if same_item (Block station number) (block_item block) then Some (next_serial history, block.block.bytes)
    else last_write history station number
last_write (Edited edit ∷ history) station number =
    if is_in_line history station then last_write history station number else None
last_write (entry ∷ history) station number = last_write history station number

-- the write with a serial has had a good answer
abbrev pub was_confirmed : History → ℕ → Bool
was_confirmed [] serial = false
was_confirmed (Opened groups ∷ history) serial = false
was_confirmed (Came arrival ∷ history) serial =
    ((arrival.serial == serial) && list_any has_good (judged_by history arrival)) || was_confirmed history serial
was_confirmed (entry ∷ history) serial = was_confirmed history serial

-- the bytes of a write that has had a good answer
abbrev pub if_confirmed : History → ℕ × List ℕ → Option (List ℕ)
if_confirmed history write = if was_confirmed history write.0 then Some write.1 else None

-- the bytes that a slave is known to have in a block: those of its last write, if that had a good answer
abbrev pub known_bytes : History → ℕ → ℕ → Option (List ℕ)
known_bytes history station number = option_and_then (if_confirmed history) (last_write history station number)

-- a block is owed if its known bytes are not those that the line configures, or if there are none
abbrev pub is_owed : History → LineBlock → Bool
is_owed history block = not (option_map_or (bytes_eq block.block.bytes) (known_bytes history block.station block.number) false)

-- the owed blocks, in line order and block order
abbrev pub owed_blocks : History → List LineBlock
owed_blocks history = filter (is_owed history) (line_blocks (line_of history))

-- the faults of sending tasks, in order: `NoSuchTask` if one is no task; `Unprogrammed` if blocks are owed, with their number;
-- `SerialsSpent` if fewer serials are left than frames
abbrev pub task_faults : History → List ℕ → List (Bool × CoreFault)
task_faults history tasks =
    (list_any is_no_task tasks, NoSuchTask)
    ∷ (nat_lt 0 (length (owed_blocks history)), Unprogrammed (length (owed_blocks history)))
    ∷ (not (has_serials history (length (proposal history tasks))), SerialsSpent)
    ∷ []

-- the outcome of a good datagram of a task
abbrev pub inputs_of : Item → Outcome
inputs_of (Datagram task d) = outcome.Inputs task d
inputs_of (Block station number) = outcome.Stale

-- the outcome of a datagram by its verdict
abbrev pub outcome_of : Head → Part → Verdict → Outcome
outcome_of head part Good = inputs_of head.item
outcome_of head part Wrong = outcome.WrongCount head.expected part.counter
outcome_of head part Stale = outcome.Stale

-- the outcome of a judged datagram
abbrev pub outcome_for : Judged → Outcome
outcome_for datagram = outcome_of datagram.head datagram.part datagram.verdict

-- the answer to an arrival by its judged datagrams
abbrev pub judged_answer : List Judged → Answer
judged_answer [] = answer.Stale
judged_answer (datagram ∷ datagrams) =
    if is_block datagram.head.item then write_answer datagram.verdict
    else (if list_any is_current (datagram ∷ datagrams) then answer.Answered (map outcome_for (datagram ∷ datagrams)) else answer.Stale)

-- the answer to an arrival as it was read
abbrev pub arrival_answer : History → Result Arrival FrameFault → Answer
arrival_answer history (Err fault) = answer.Refused (frame_refusal fault)
arrival_answer history (Ok arrival) = judged_answer (judged_by history arrival)

-- the events without forgetting, clearing and unplugging, steady posts, ready tasks, and frames of several writes
pub data FirstStep : Type 0 where
  Edits : Edit → FirstStep
  Posts : ℕ → ℕ → List ℕ → FirstStep
  SendsTasks : List ℕ → FirstStep
  SendsWrite : FirstStep
  Arrives : List ℕ → FirstStep
  Reads : ℕ → FirstStep

-- each of these events as an event of the core
abbrev pub step_of : FirstStep → Step
step_of (Edits edit) = now.Edits edit
step_of (Posts task epoch bytes) = now.Posts task epoch bytes
step_of (SendsTasks tasks) = now.SendsTasks tasks
step_of SendsWrite = now.SendsWrite
step_of (Arrives bytes) = now.Arrives bytes
step_of (Reads task) = now.Reads task

-- the answer to an event; of several refusals the first that holds
abbrev pub answer_to : History → FirstStep → Answer
answer_to history (Edits edit) = unless (edit_refused history edit) (edit_answer (state_of history) (state_after (state_of history) edit))
answer_to history (Posts task epoch bytes) = unless (lowest (post_faults history task epoch bytes)) answer.Posted
answer_to history (SendsTasks tasks) = unless (lowest (task_faults history tasks)) (answer.Sent (map (sent_text history) (proposal history tasks)))
answer_to history SendsWrite = unless (lowest (write_faults history (owed_blocks history))) (sent_write_answer (next_serial history) (owed_blocks history))
answer_to history (Arrives bytes) = arrival_answer history (arrival_in bytes)
answer_to history (Reads task) = unless (lowest (read_faults task)) (answer.Image (epoch_of history) (slots_of history task))

-- the record with what was accepted; a refused event leaves it as it was, and a read too
abbrev pub entries_after : History → FirstStep → History
entries_after history (Edits edit) = unless_fault (edit_refused history edit) history (Edited edit ∷ history)
entries_after history (Posts task epoch bytes) = unless_fault (lowest (post_faults history task epoch bytes)) history (Posted task bytes ∷ history)
entries_after history (SendsTasks tasks) = unless_fault (lowest (task_faults history tasks)) history (with_sent history (proposal history tasks))
entries_after history SendsWrite = unless_fault (lowest (write_faults history (owed_blocks history))) history (with_write history (owed_blocks history))
entries_after history (Arrives bytes) = with_arrival history (arrival_in bytes)
entries_after history (Reads task) = history

-- the answers to a list of events, each after those before it
abbrev pub answers_to : History → List FirstStep → List Answer
answers_to history [] = []
answers_to history (step ∷ steps) = answer_to history step ∷ answers_to (entries_after history step) steps

-- the record that the events leave, one after another
abbrev pub entries_after_all : History → List FirstStep → History
entries_after_all history [] = history
entries_after_all history (step ∷ steps) = entries_after_all (entries_after history step) steps
