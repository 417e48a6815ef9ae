-- Laws of sendings: the sending with a serial, the frames that an accepted event sends, and their content.
use Rattle.std.specs.Prelude.{◌≡◌, ◌≢◌, ◌↔◌, ℕ, ◌+◌, ◌%◌, ◌<◌, Bool, true, false, All, IsNone, IsSome, List, [], ◌∷◌, ◌++◌, length, map, slice_index, Some}
use Rattle.std.specs.List.{flat_map, list_all, list_any}
use Rattle.hc_records.specs.Lists.{lowest}
use Rattle.hc_registers.specs.Blocks.{LineBlock}
use Rattle.hc_frames.specs.declared.limits.TheConstants.{SETUP_SERIAL}
use Rattle.hc_frames.specs.FrameText.{Datagram, frame_text}
use Rattle.hc_events.specs.declared.answer.Answer.TheVariants as answer
use Rattle.hc_events.specs.Entries.{HistoryEntry, History, Opened, Sent, Wrote}
use Rattle.hc_events.specs.Points.{line_of, next_serial}
use Rattle.hc_events.specs.Sendings.{Frame, sent_frame_size, task_datagrams}
use Rattle.hc_events.specs.Heads.{Head, data_heads, write_head, write_heads}
use Rattle.hc_events.specs.Answering.{Sending, sending_of_heads, sending_of}
use Rattle.hc_events.specs.Owed.{owed_blocks}
use Rattle.hc_events.specs.WriteFrames.{frame_blocks}
use Rattle.hc_events.specs.Steps.{SendsTasks, SendsWrite, SendsWrites, answer_to, entries_after, proposal, sent_text, task_faults, writes_answer, write_faults, write_text}
use Rattle.hc_events.specs.Accepted.{IsReachable}

-- a frame of tasks or a register write
abbrev pub is_sending : HistoryEntry → Bool
is_sending (Sent frame) = true
is_sending (Wrote blocks) = true
is_sending entry = false

-- the entry is the project's opening
abbrev pub is_opening : HistoryEntry → Bool
is_opening (Opened groups) = true
is_opening entry = false

-- the heads of the datagrams of an entry that is sent after a record
abbrev pub heads_of : History → HistoryEntry → List Head
heads_of history (Sent frame) = data_heads (line_of history) frame
heads_of history (Wrote blocks) = write_heads blocks
heads_of history entry = []

-- a sending is in a record: the entry before which so many sendings were made as its serial says, and after it the entries since
pub record IsSendingAt (history : History) (serial : ℕ) (sending : Sending) : Type 0 where
  pub before : History
  pub entry : HistoryEntry
  pub split : history ≡ sending.since ++ entry ∷ before
  pub sends : is_sending entry ≡ true
  pub serial_is : next_serial before ≡ serial
  pub heads : sending.heads ≡ heads_of before entry
  pub running : list_any is_opening sending.since ≡ false

-- each serial below the next one has a sending, and this is the one that is there
pub record HasItsSending (history : History) (serial : ℕ) : Type 0 where
  pub below : (serial < next_serial history) ↔ IsSome (sending_of history serial)
  pub which : (sending : Sending) → (sending_of history serial ≡ Some sending) ↔ IsSendingAt history serial sending

-- `HasItsSending` holds for every serial, in any record
abbrev pub SendingsHaveSerials : Type 0
SendingsHaveSerials = (history : History) (serial : ℕ) → HasItsSending history serial

-- of two sendings of a record the one with the greater serial was made later: fewer entries came since
abbrev pub SerialsAscend : Type 0
SerialsAscend =
    (history : History) (low high : ℕ) (older newer : Sending) → sending_of history low ≡ Some older → sending_of history high ≡ Some newer
    → low < high → length newer.since < length older.since

-- the serial of each sending of a record that events led to is below the serial of alias reads and station writes
abbrev pub SerialsStayBelow : Type 0
SerialsStayBelow =
    (history : History) (serial : ℕ) (sending : Sending) → IsReachable history → sending_of history serial ≡ Some sending
    → serial < SETUP_SERIAL

-- the entry is a frame of tasks
abbrev pub is_frame : HistoryEntry → Bool
is_frame (Sent frame) = true
is_frame entry = false

-- after an accepted sending of tasks, a frame of theirs is the sending with its own serial, and nothing but further frames came since
pub record IsFound (history after : History) (frame : Frame) : Type 0 where
  pub since : List HistoryEntry
  pub found : sending_of after frame.serial ≡ Some (record { heads = data_heads (line_of history) frame.datagrams; since = since })
  pub frames : list_all is_frame since ≡ true

-- the answer has the texts of the proposal's frames, and each of these is found
pub record AreSent (history : History) (tasks : List ℕ) : Type 0 where
  pub answer : answer_to history (SendsTasks tasks) ≡ answer.Sent (map (sent_text history) (proposal history tasks))
  pub found : All (IsFound history (entries_after history (SendsTasks tasks))) (proposal history tasks)

-- `AreSent` holds for every sending of tasks that has no fault
abbrev pub SentFramesAreFound : Type 0
SentFramesAreFound = (history : History) (tasks : List ℕ) → IsNone (lowest (task_faults history tasks)) → AreSent history tasks

-- an accepted write writes the first owed block, with the serial that was next
pub record BlockIsWritten (history : History) : Type 0 where
  pub block : LineBlock
  pub rest : List LineBlock
  pub first : owed_blocks history ≡ block ∷ rest
  pub answer : answer_to history SendsWrite ≡ answer.WriteSent (write_text (next_serial history) block)
  pub found : sending_of (entries_after history SendsWrite) (next_serial history) ≡ Some (sending_of_heads (write_head block ∷ []))

-- `BlockIsWritten` holds for every write that has no fault
abbrev pub SentWritesAreFound : Type 0
SentWritesAreFound = (history : History) → IsNone (lowest (write_faults history (owed_blocks history))) → BlockIsWritten history

-- an accepted frame of register writes writes the first owed blocks, at least one, as many as one frame holds; it has the serial that was next
pub record BlocksAreWritten (history : History) : Type 0 where
  pub some : 0 < length (frame_blocks (owed_blocks history))
  pub answer : answer_to history SendsWrites ≡ writes_answer (next_serial history) (frame_blocks (owed_blocks history))
  pub found : sending_of (entries_after history SendsWrites) (next_serial history) ≡ Some (sending_of_heads (write_heads (frame_blocks (owed_blocks history))))

-- `BlocksAreWritten` holds for every frame of the first owed blocks that has no fault
abbrev pub SentWriteFramesAreFound : Type 0
SentWriteFramesAreFound = (history : History) → IsNone (lowest (write_faults history (owed_blocks history))) → BlocksAreWritten history

-- the datagrams of a proposal's frames, in a row, are those of the tasks in the tasks' order: none is left out, repeated or moved
abbrev pub ProposalsCarryTheTasks : Type 0
ProposalsCarryTheTasks =
    (history : History) (tasks : List ℕ)
    → flat_map (λ (frame : Frame). frame.datagrams) (proposal history tasks) ≡ flat_map (task_datagrams (line_of history)) tasks

-- each frame of a proposal has as many bytes as its text
abbrev pub FramesHaveTheirSizes : Type 0
FramesHaveTheirSizes =
    (history : History) (tasks : List ℕ) → All (λ (frame : Frame). length (sent_text history frame) ≡ sent_frame_size frame) (proposal history tasks)

-- the index of a frame's first datagram, which each of its datagrams bears: the byte after the 16 bytes of the heads and the command
abbrev pub index_in : List ℕ → ℕ
index_in text = slice_index text 17

-- the index of a frame is its serial modulo 256, so it comes again in the frame 256 sendings later, and in none before that
pub record ComesAgain (serial : ℕ) (d : Datagram) (ds : List Datagram) : Type 0 where
  pub index : index_in (frame_text serial (d ∷ ds)) ≡ serial % 256
  pub again : (e : Datagram) (es : List Datagram) → index_in (frame_text (serial + 256) (e ∷ es)) ≡ index_in (frame_text serial (d ∷ ds))
  pub before :
      (later : ℕ) (e : Datagram) (es : List Datagram) → serial < later → later < serial + 256
      → index_in (frame_text later (e ∷ es)) ≢ index_in (frame_text serial (d ∷ ds))

-- `ComesAgain` holds for the text of any frame, whatever its datagrams are
abbrev pub IndexesComeAgain : Type 0
IndexesComeAgain = (serial : ℕ) (d : Datagram) (ds : List Datagram) → ComesAgain serial d ds
