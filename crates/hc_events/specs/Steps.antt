-- The answer of the core to each event, and the entries that it accepts. `Calls` has the events that may be answered with
-- `Memory` instead.
use Rattle.std.specs.Prelude.{ℕ, ◌+◌, ◌==◌, ◌||◌, not, nat_lt, is_none, Bool, if◌then◌else◌, List, [], ◌∷◌, ◌++◌, length, map, Option, Some, None, option_map, Result, Ok, Err}
use Rattle.std.specs.List.{list_any}
use Rattle.hc_records.specs.declared.limits.TheConstants.{TASKS}
use Rattle.hc_records.specs.declared.edit.Edit.{Edit}
use Rattle.hc_records.specs.Lists.{lowest}
use Rattle.hc_records.specs.Line.{State, line}
use Rattle.hc_records.specs.Image.{logical_address, output_length, task_places}
use Rattle.hc_records.specs.Boundaries.{recut}
use Rattle.hc_records.specs.Edits.{edit_faults, is_declared_station, slave_at, state_after}
use Rattle.hc_registers.specs.Blocks.{LineBlock, moved}
use Rattle.hc_frames.specs.FrameText.{Datagram, block_write, frame_text, lrw}
use Rattle.hc_events.specs.declared.answer.Answer.{Answer}
use Rattle.hc_events.specs.declared.answer.Answer.TheVariants as answer
use Rattle.hc_events.specs.declared.answer.Outcome.{Outcome}
use Rattle.hc_events.specs.declared.answer.Outcome.TheVariants as outcome
use Rattle.hc_events.specs.declared.event.Event.{Event}
use Rattle.hc_events.specs.declared.event.Event.TheVariants as event
use Rattle.hc_events.specs.declared.faults.CoreFault.{CoreFault}
use Rattle.hc_events.specs.declared.faults.CoreFault.TheVariants.{Absent, AlreadyPresent, NoSuchTask, NothingOwed, PostLength, SerialsSpent, StalePost, UnderWay, UnknownStation, Unprogrammed, Waits}
use Rattle.hc_frames.specs.declared.limits.TheConstants.{SETUP_SERIAL}
use Rattle.hc_frames.specs.declared.reading.faults.FrameFault.{FrameFault}
use Rattle.hc_events.specs.Faults.{edit_refusal, frame_refusal}
use Rattle.hc_events.specs.Arrivals.{Arrival, Part, arrival_in}
use Rattle.hc_events.specs.Entries.{History, Edited, Posted, Sent, Wrote, Came, Forgot, Unplugged}
use Rattle.hc_events.specs.Points.{epoch_of, line_of, next_serial, state_of}
use Rattle.hc_events.specs.Sendings.{Frame, Named, sendings_of}
use Rattle.hc_events.specs.Heads.{Head, Item, Datagram as DatagramItem, Block, is_block}
use Rattle.hc_events.specs.Answering.{Judged, Verdict, Good, Wrong, Stale, is_current, judged_by}
use Rattle.hc_events.specs.Images.{slots_of}
use Rattle.hc_events.specs.Outputs.{sent_data}
use Rattle.hc_events.specs.Owed.{is_in_line, owed_blocks}
use Rattle.hc_events.specs.Ready.{is_ready, waited_for, waited_for_outside, with_cleared}
use Rattle.hc_events.specs.Steady.{task_epoch}
use Rattle.hc_events.specs.UnderWay.{further_blocks}
use Rattle.hc_events.specs.WriteFrames.{frame_blocks, writes_text}

-- an event, without its place in memory
pub data Step : Type 0 where
  Edits : Edit → Step
  Posts : ℕ → ℕ → List ℕ → Step
  PostsSteady : ℕ → ℕ → List ℕ → Step
  SendsTasks : List ℕ → Step
  SendsWrite : Step
  SendsWrites : Step
  Arrives : List ℕ → Step
  Reads : ℕ → Step
  Forgets : ℕ → Step
  SendsReady : List ℕ → Step
  Clears : ℕ → Step
  Unplugs : ℕ → Step
  SendsFurther : Step

-- the refusal with a fault if there is one, otherwise this answer
abbrev pub unless : Option CoreFault → Answer → Answer
unless None returned = returned
unless (Some fault) returned = answer.Refused fault

-- the record `history` if there is a fault, otherwise `next`
abbrev pub unless_fault : Option CoreFault → History → History → History
unless_fault None history next = next
unless_fault (Some fault) history next = history

-- an edit

-- the lowest fault of the edit in the record's state, as the core's fault; none if the state accepts it
abbrev pub edit_refused : History → Edit → Option CoreFault
edit_refused history edit = option_map edit_refusal (lowest (edit_faults (state_of history) edit))

-- the answer to an accepted edit that led from one state to another: the new epoch, how many spans are recut, and how many blocks moved
abbrev pub edit_answer : State → State → Answer
edit_answer old new = answer.Edited new.epoch (recut (line old) (line new)) (moved (line old) (line new))

-- a post

-- the number is over 7, so it is no task's
abbrev pub is_no_task : ℕ → Bool
is_no_task task = not (nat_lt task TASKS)

-- the faults of a post, in order: `NoSuchTask`; `StalePost` for another epoch than the present one; `PostLength` if the bytes
-- are not as many as the task's output bytes
abbrev pub post_faults : History → ℕ → ℕ → List ℕ → List (Bool × CoreFault)
post_faults history task epoch bytes =
    (is_no_task task, NoSuchTask)
    ∷ (not (epoch == epoch_of history), StalePost)
    ∷ (not (length bytes == output_length (task_places task (line_of history))), PostLength)
    ∷ []

-- a steady post: one that edits of other tasks leave valid

-- an epoch is below the one of the last edit that changed the task, or above the present one
abbrev pub is_stale_epoch : History → ℕ → ℕ → Bool
is_stale_epoch history task epoch = nat_lt epoch (task_epoch history task) || nat_lt (epoch_of history) epoch

-- the faults of a steady post, in order: `NoSuchTask`; `StalePost` for an epoch before the last edit that changed the task or
-- after the present one; `PostLength` if the bytes are not as many as the task's output bytes
abbrev pub post_steady_faults : History → ℕ → ℕ → List ℕ → List (Bool × CoreFault)
post_steady_faults history task epoch bytes =
    (is_no_task task, NoSuchTask)
    ∷ (is_stale_epoch history task epoch, StalePost)
    ∷ (not (length bytes == output_length (task_places task (line_of history))), PostLength)
    ∷ []

-- a sending of tasks: one frame or more, or none if the tasks have no datagram

-- from a serial on so many are left: sendings have those below the one of alias reads and station writes
abbrev pub serials_left : ℕ → ℕ → Bool
serials_left serial sendings = not (nat_lt SETUP_SERIAL (serial + sendings))

-- from the next serial on, so many are left below the serial of alias reads and station writes
abbrev pub has_serials : History → ℕ → Bool
has_serials history sendings = serials_left (next_serial history) sendings

-- the frames in which the tasks would be sent next, in the given order, from the next serial on, even if the sending is
-- refused; none if they have no datagram
abbrev pub proposal : History → List ℕ → List Frame
proposal history tasks = sendings_of (line_of history) (next_serial history) tasks

-- the faults of sending tasks, in order: `NoSuchTask` if one is no task; `Unprogrammed` if blocks are owed, with their number;
-- `SerialsSpent` if fewer serials are left than frames
abbrev pub task_faults : History → List ℕ → List (Bool × CoreFault)
task_faults history tasks =
    (list_any is_no_task tasks, NoSuchTask)
    ∷ (nat_lt 0 (length (owed_blocks history)), Unprogrammed (length (owed_blocks history)))
    ∷ (not (has_serials history (length (proposal history tasks))), SerialsSpent)
    ∷ []

-- a sending of ready tasks: the same frames, while blocks are owed that concern none of the tasks

-- a task waits: for so many owed blocks, and for so many registers of slaves outside the line
abbrev pub wait_fault : History → ℕ → Bool × CoreFault
wait_fault history task = (not (is_ready history task), Waits task (length (waited_for history task)) (length (waited_for_outside history task)))

-- the faults of sending ready tasks, in order: `NoSuchTask` if one is no task; `Waits` of the first of them that waits;
-- `SerialsSpent` if fewer serials are left than frames
abbrev pub ready_faults : History → List ℕ → List (Bool × CoreFault)
ready_faults history tasks =
    (list_any is_no_task tasks, NoSuchTask)
    ∷ map (wait_fault history) tasks
    ++ (not (has_serials history (length (proposal history tasks))), SerialsSpent)
    ∷ []

-- a task's datagram as it is sent after the record: an LRW at its logical address, with the data that it is sent with
abbrev pub sent_datagram : History → Named → Datagram
sent_datagram history named = lrw (logical_address named.0 named.1) (sent_data history named.0 named.1)

-- the bytes of a frame of tasks as it is sent after the record: with its own serial, and its datagrams as `sent_datagram` says
abbrev pub sent_text : History → Frame → List ℕ
sent_text history sending = frame_text sending.serial (map (sent_datagram history) sending.datagrams)

-- with each frame an entry, the last frame newest
abbrev pub with_sent : History → List Frame → History
with_sent history [] = history
with_sent history (sending ∷ sendings) = with_sent (Sent sending.datagrams ∷ history) sendings

-- a register write: the first owed block's

-- the faults of a register write if these blocks are owed, in order: `NothingOwed` if there are none; `SerialsSpent` if no
-- serial is left
abbrev pub write_faults : History → List LineBlock → List (Bool × CoreFault)
write_faults history blocks = (length blocks == 0, NothingOwed) ∷ (not (has_serials history 1), SerialsSpent) ∷ []

-- the bytes of the frame with this serial that writes the block's bytes to its register in its slave
abbrev pub write_text : ℕ → LineBlock → List ℕ
write_text serial block = frame_text serial (block_write block.station block.block.register block.block.bytes ∷ [])

-- the answer to a register write if these blocks are owed: the frame of the first one, with this serial; the refusal
-- `NothingOwed` if there are none
abbrev pub sent_write_answer : ℕ → List LineBlock → Answer
sent_write_answer serial [] = answer.Refused NothingOwed
sent_write_answer serial (block ∷ blocks) = answer.WriteSent (write_text serial block)

-- the record with the write of the first of these blocks as its newest entry; unchanged if there are none
abbrev pub with_write : History → List LineBlock → History
with_write history [] = history
with_write history (block ∷ blocks) = Wrote (block ∷ []) ∷ history

-- a frame of register writes: the first owed blocks, as many as it holds (`frame_blocks`); refused as a register write is

-- the answer to the writes of these blocks in one frame with this serial: one block is answered as its write alone is; the
-- refusal `NothingOwed` if there are none
abbrev pub writes_answer : ℕ → List LineBlock → Answer
writes_answer serial [] = answer.Refused NothingOwed
writes_answer serial (block ∷ []) = answer.WriteSent (write_text serial block)
writes_answer serial (block ∷ next ∷ blocks) = answer.WritesSent (writes_text serial (block ∷ next ∷ blocks))

-- the record with the frame that writes these blocks as its newest entry; unchanged if there are none
abbrev pub with_writes : History → List LineBlock → History
with_writes history [] = history
with_writes history (block ∷ blocks) = Wrote (block ∷ blocks) ∷ history

-- a further frame of register writes: the first owed blocks that are not under way, as many as it holds; it is answered as a
-- frame of the first owed blocks is

-- the faults of a further frame, in order: `NothingOwed` if nothing is owed; `UnderWay` if each owed block is under way;
-- `SerialsSpent` if no serial is left
abbrev pub further_faults : History → List (Bool × CoreFault)
further_faults history =
    (length (owed_blocks history) == 0, NothingOwed)
    ∷ (length (further_blocks history) == 0, UnderWay)
    ∷ (not (has_serials history 1), SerialsSpent)
    ∷ []

-- an arrival: the outcome of each datagram of the tasks, or of each register write; stale if it answers no sending or each
-- datagram is stale

-- the outcome of a good datagram: the inputs of a task's datagram, or that a register block's write is done
abbrev pub inputs_of : Item → Outcome
inputs_of (DatagramItem task d) = outcome.Inputs task d
inputs_of (Block station number) = outcome.Done

-- the outcome of a wrong datagram: the expected counter of a task's datagram and the one that came, or that a register block's
-- write missed
abbrev pub wrong_of : Item → ℕ → ℕ → Outcome
wrong_of (DatagramItem task d) expected got = outcome.WrongCount expected got
wrong_of (Block station number) expected got = outcome.Missed

-- the outcome of a datagram by its verdict: `inputs_of` its item if it is good, `wrong_of` its item with the expected counter
-- and the one that came if it is wrong, `Stale` if it is stale
abbrev pub outcome_of : Head → Part → Verdict → Outcome
outcome_of head part Good = inputs_of head.item
outcome_of head part Wrong = wrong_of head.item head.expected part.counter
outcome_of head part Stale = outcome.Stale

-- the outcome of a judged datagram: if it is good, `Inputs` of a task's and `Done` of a register block; if it is wrong,
-- `WrongCount` with the expected counter and the one that came, or `Missed`; `Stale` if it is stale
abbrev pub outcome_for : Judged → Outcome
outcome_for datagram = outcome_of datagram.head datagram.part datagram.verdict

-- the answer to an arrival that answers a write of one register block: `WriteDone` if it is good, `WriteMissed` if it is wrong,
-- `Stale` if it is stale
abbrev pub write_answer : Verdict → Answer
write_answer Good = answer.WriteDone
write_answer Wrong = answer.WriteMissed
write_answer Stale = answer.Stale

-- the answer to an arrival that answers a frame of register writes, by its judged datagrams: for one block by its verdict
-- (`write_answer`), for several `Written` with the outcome of each; `Stale` if all are stale or there is none
abbrev pub judged_blocks_answer : List Judged → Answer
judged_blocks_answer [] = answer.Stale
judged_blocks_answer (datagram ∷ []) = write_answer datagram.verdict
judged_blocks_answer (datagram ∷ next ∷ datagrams) =
    if list_any is_current (datagram ∷ next ∷ datagrams) then answer.Written (map outcome_for (datagram ∷ next ∷ datagrams)) else answer.Stale

-- the answer to an arrival by its judged datagrams: if the first one is a register block, that of register writes
-- (`judged_blocks_answer`), otherwise `Answered` with the outcome of each; `Stale` if all are stale or there is none
abbrev pub judged_answer : List Judged → Answer
judged_answer [] = answer.Stale
judged_answer (datagram ∷ datagrams) =
    if is_block datagram.head.item then judged_blocks_answer (datagram ∷ datagrams)
    else (if list_any is_current (datagram ∷ datagrams) then answer.Answered (map outcome_for (datagram ∷ datagrams)) else answer.Stale)

-- the answer to an arrival as it was read: the refusal with the fault why it cannot be read, otherwise the answer by the
-- datagrams that it answers (`judged_by`)
abbrev pub arrival_answer : History → Result Arrival FrameFault → Answer
arrival_answer history (Err fault) = answer.Refused (frame_refusal fault)
arrival_answer history (Ok arrival) = judged_answer (judged_by history arrival)

-- the record with the arrival as its newest entry; unchanged if the arrival could not be read
abbrev pub with_arrival : History → Result Arrival FrameFault → History
with_arrival history (Err fault) = history
with_arrival history (Ok arrival) = Came arrival ∷ history

-- the data that a task reads

-- the fault of a read: `NoSuchTask`
abbrev pub read_faults : ℕ → List (Bool × CoreFault)
read_faults task = (is_no_task task, NoSuchTask) ∷ []

-- the answer to a read of a task: the epoch, and the data of each of the task's datagrams
abbrev pub image_of : History → ℕ → Answer
image_of history task = answer.Image (epoch_of history) (slots_of history task)

-- forgetting a slave's registers

-- the faults of forgetting a slave, in order, as an edit of one of the slave's areas is refused: `UnknownStation` if no
-- declared slave has the station address; `Absent` if that slave is not in the line
abbrev pub forget_faults : History → ℕ → List (Bool × CoreFault)
forget_faults history station =
    (not (is_declared_station (state_of history) station), UnknownStation)
    ∷ (is_none (slave_at (state_of history) station), Absent)
    ∷ []

-- clearing and unplugging a slave

-- the fault of clearing a slave: `UnknownStation` if no declared slave has the station address
abbrev pub clear_faults : History → ℕ → List (Bool × CoreFault)
clear_faults history station = (not (is_declared_station (state_of history) station), UnknownStation) ∷ []

-- the faults of unplugging a slave, in order: `UnknownStation` if no declared slave has the station address; `AlreadyPresent`
-- if the slave is in the line
abbrev pub unplug_faults : History → ℕ → List (Bool × CoreFault)
unplug_faults history station =
    (not (is_declared_station (state_of history) station), UnknownStation)
    ∷ (is_in_line history station, AlreadyPresent)
    ∷ []

-- an event as the core is given it
abbrev pub step_of : Event → Step
step_of (event.Edit edit) = Edits edit.now
step_of (event.Post task epoch bytes) = Posts task epoch bytes.now
step_of (event.PostSteady task epoch bytes) = PostsSteady task epoch bytes.now
step_of (event.SendTasks tasks) = SendsTasks tasks.now
step_of event.SendWrite = SendsWrite
step_of event.SendWrites = SendsWrites
step_of (event.Arrive bytes) = Arrives bytes.now
step_of (event.Read task) = Reads task
step_of (event.Forget station) = Forgets station
step_of (event.SendReady tasks) = SendsReady tasks.now
step_of (event.Cleared station) = Clears station
step_of (event.Unplugged station) = Unplugs station
step_of event.SendFurther = SendsFurther

-- the answer to an event; of several refusals the first that holds
abbrev pub answer_to : History → Step → Answer
answer_to history (Edits edit) = unless (edit_refused history edit) (edit_answer (state_of history) (state_after (state_of history) edit))
answer_to history (Posts task epoch bytes) = unless (lowest (post_faults history task epoch bytes)) answer.Posted
answer_to history (PostsSteady task epoch bytes) = unless (lowest (post_steady_faults history task epoch bytes)) answer.Posted
answer_to history (SendsTasks tasks) = unless (lowest (task_faults history tasks)) (answer.Sent (map (sent_text history) (proposal history tasks)))
answer_to history SendsWrite = unless (lowest (write_faults history (owed_blocks history))) (sent_write_answer (next_serial history) (owed_blocks history))
answer_to history SendsWrites = unless (lowest (write_faults history (owed_blocks history))) (writes_answer (next_serial history) (frame_blocks (owed_blocks history)))
answer_to history (Arrives bytes) = arrival_answer history (arrival_in bytes)
answer_to history (Reads task) = unless (lowest (read_faults task)) (image_of history task)
answer_to history (Forgets station) = unless (lowest (forget_faults history station)) answer.Forgotten
answer_to history (SendsReady tasks) = unless (lowest (ready_faults history tasks)) (answer.Sent (map (sent_text history) (proposal history tasks)))
answer_to history (Clears station) = unless (lowest (clear_faults history station)) answer.Cleared
answer_to history (Unplugs station) = unless (lowest (unplug_faults history station)) answer.Unplugged
answer_to history SendsFurther = unless (lowest (further_faults history)) (writes_answer (next_serial history) (frame_blocks (further_blocks history)))

-- the record with what was accepted; a refused event leaves it as it was, and a read too
abbrev pub entries_after : History → Step → History
entries_after history (Edits edit) = unless_fault (edit_refused history edit) history (Edited edit ∷ history)
entries_after history (Posts task epoch bytes) = unless_fault (lowest (post_faults history task epoch bytes)) history (Posted task bytes ∷ history)
entries_after history (PostsSteady task epoch bytes) = unless_fault (lowest (post_steady_faults history task epoch bytes)) history (Posted task bytes ∷ history)
entries_after history (SendsTasks tasks) = unless_fault (lowest (task_faults history tasks)) history (with_sent history (proposal history tasks))
entries_after history SendsWrite = unless_fault (lowest (write_faults history (owed_blocks history))) history (with_write history (owed_blocks history))
entries_after history SendsWrites = unless_fault (lowest (write_faults history (owed_blocks history))) history (with_writes history (frame_blocks (owed_blocks history)))
entries_after history (Arrives bytes) = with_arrival history (arrival_in bytes)
entries_after history (Reads task) = history
entries_after history (Forgets station) = unless_fault (lowest (forget_faults history station)) history (Forgot station ∷ history)
entries_after history (SendsReady tasks) = unless_fault (lowest (ready_faults history tasks)) history (with_sent history (proposal history tasks))
entries_after history (Clears station) = unless_fault (lowest (clear_faults history station)) history (with_cleared history station)
entries_after history (Unplugs station) = unless_fault (lowest (unplug_faults history station)) history (Unplugged station ∷ history)
entries_after history SendsFurther = unless_fault (lowest (further_faults history)) history (with_writes history (frame_blocks (further_blocks history)))

-- the answers to a list of events, each after those before it
abbrev pub answers_to : History → List Step → List Answer
answers_to history [] = []
answers_to history (step ∷ steps) = answer_to history step ∷ answers_to (entries_after history step) steps

-- the record that the events leave, one after another, from this record on
abbrev pub entries_after_all : History → List Step → History
entries_after_all history [] = history
entries_after_all history (step ∷ steps) = entries_after_all (entries_after history step) steps
