-- The additions of a core's calls to the answers: refused memory, a slice of the caller's that is too short, and the conditions
-- on the caller.
use Rattle.std.specs.Prelude.{◌≡◌, ℕ, ◌+◌, ◌<◌, ◌≤◌, ◌⊎◌, ◌&&◌, nat_le, nat_lt, not, Bool, true, false, if◌then◌else◌, List, [], ◌∷◌, ◌++◌, length, sum_by, Option, Some, None, drop}
use Rattle.std.specs.List.{flat_map}
use Rattle.hc_records.specs.declared.limits.TheConstants.{TASKS}
use Rattle.hc_records.specs.Lists.{has_repeat}
use Rattle.hc_records.specs.Image.{datagram_count, task_places}
use Rattle.hc_registers.specs.Blocks.{LineBlock}
use Rattle.hc_frames.specs.Sizes.{frame_bytes}
use Rattle.hc_events.specs.declared.answer.Answer.{Answer}
use Rattle.hc_events.specs.Steps.{sent_text, Step, Posts, PostsSteady, Forgets, Clears, Unplugs, answer_to, entries_after, has_serials, further_faults, proposal, ready_faults, task_faults, write_faults}
use Rattle.hc_events.specs.declared.answer.Answer.TheVariants as answer
use Rattle.hc_events.specs.declared.faults.CoreFault.{CoreFault}
use Rattle.hc_events.specs.declared.faults.CoreFault.TheVariants.{Memory, Room}
use Rattle.hc_events.specs.Entries.{History}
use Rattle.hc_events.specs.Points.{line_of, next_serial}
use Rattle.hc_events.specs.Sendings.{Frame, frame_of_one, line_data_length, sent_frame_size}
use Rattle.hc_events.specs.Owed.{owed_blocks}
use Rattle.hc_events.specs.UnderWay.{further_blocks}
use Rattle.hc_events.specs.WriteFrames.{frame_blocks, writes_size}

-- an event allocates for its answer or for the state after it. A post allocates nothing, steady or not, since the memory for
-- its values was allocated at the opening or by an accepted edit. Forgetting, clearing and unplugging a slave allocate nothing
abbrev pub takes_memory : Step → Bool
takes_memory (Posts task epoch bytes) = false
takes_memory (PostsSteady task epoch bytes) = false
takes_memory (Forgets station) = false
takes_memory (Clears station) = false
takes_memory (Unplugs station) = false
takes_memory step = true

-- the event's answer, and the record after it
pub record IsAnswered (history : History) (step : Step) (returned : Answer) (next : History) : Type 0 where
  pub answer : returned ≡ answer_to history step
  pub entries : next ≡ entries_after history step

-- `Memory`, and the history as it was
pub record IsOutOfMemory (history : History) (step : Step) (returned : Answer) (next : History) : Type 0 where
  pub takes : takes_memory step ≡ true
  pub answer : returned ≡ answer.Refused Memory
  pub entries : next ≡ history

-- the answer that an event may have, and the record that is then left: `Memory` may take the place of any answer to an event
-- that allocates
abbrev pub MayAnswer : History → Step → Answer → History → Type 0
MayAnswer history step returned next = IsAnswered history step returned next ⊎ IsOutOfMemory history step returned next

-- the fault of a slice with fewer bytes than are needed
abbrev pub room_faults : ℕ → ℕ → List (Bool × CoreFault)
room_faults needed bytes = (nat_lt bytes needed, Room needed) ∷ []

-- the bytes of the frame that writes the first of these blocks
abbrev pub write_size : List LineBlock → ℕ
write_size [] = 0
write_size (block ∷ blocks) = frame_bytes (12 + length block.block.bytes)

-- the faults of writing the first owed block into a slice of so many bytes: those of the event, then the fault of a slice that
-- is too short
abbrev pub write_into_faults : History → ℕ → List (Bool × CoreFault)
write_into_faults history bytes = write_faults history (owed_blocks history) ++ room_faults (write_size (owed_blocks history)) bytes

-- the faults of writing the first owed blocks, as many as one frame holds, into a slice of so many bytes: those of the event, then the fault of a
-- slice that is too short
abbrev pub write_all_into_faults : History → ℕ → List (Bool × CoreFault)
write_all_into_faults history bytes = write_faults history (owed_blocks history) ++ room_faults (writes_size (frame_blocks (owed_blocks history))) bytes

-- the faults of writing a further frame into a slice of so many bytes: those of the event, then the fault of a slice that is
-- too short. The frame writes the first owed blocks that are not under way, as many as it holds
abbrev pub further_into_faults : History → ℕ → List (Bool × CoreFault)
further_into_faults history bytes = further_faults history ++ room_faults (writes_size (frame_blocks (further_blocks history))) bytes

-- the bytes of the frames of a sending of tasks
abbrev pub frames_size : History → List ℕ → ℕ
frames_size history tasks = sum_by sent_frame_size (proposal history tasks)

-- a slice with the texts of these frames at its front, one after another, and with what it had after them
abbrev pub arena_sent : History → List ℕ → List ℕ → List ℕ
arena_sent history tasks arena = flat_map (sent_text history) (proposal history tasks) ++ drop (frames_size history tasks) arena

-- the faults of sending tasks into a slice of so many bytes, their frames one after another: those of the event, then the fault of a slice that is
-- too short
abbrev pub send_into_faults : History → List ℕ → ℕ → List (Bool × CoreFault)
send_into_faults history tasks bytes = task_faults history tasks ++ room_faults (frames_size history tasks) bytes

-- the faults of sending ready tasks into a slice of so many bytes, their frames one after another: those of the event, then the fault of a slice
-- that is too short
abbrev pub ready_into_faults : History → List ℕ → ℕ → List (Bool × CoreFault)
ready_into_faults history tasks bytes = ready_faults history tasks ++ room_faults (frames_size history tasks) bytes

-- the condition on a caller that sends tasks: they are at least one and at most as many as there are tasks, and none twice. A
-- number that is no task's is judged by the event
pub record AreSentTogether (tasks : List ℕ) : Type 0 where
  pub some : 0 < length tasks
  pub most : length tasks ≤ TASKS
  pub distinct : has_repeat tasks ≡ false

-- a test that tasks are at least one, at most as many as there are tasks, and none twice
abbrev pub are_together : List ℕ → Bool
are_together tasks = nat_lt 0 (length tasks) && nat_le (length tasks) TASKS && not (has_repeat tasks)

-- the tasks, if they can be sent together; otherwise none
abbrev pub if_together : List ℕ → Option (List ℕ)
if_together tasks = if are_together tasks then Some tasks else None

-- the frame of one datagram alone as it would be sent next, even if blocks are owed; none if the task has no such datagram or
-- no serial is left
abbrev pub preview : History → ℕ → ℕ → Option Frame
preview history task d =
    if nat_lt d (datagram_count (task_places task (line_of history))) && has_serials history 1
    then Some (frame_of_one (next_serial history) (task, d) (line_data_length (line_of history) (task, d)))
    else None
