-- Laws of the knowledge that register writes leave: a good answer makes the bytes of a block known. Other laws tell the blocks
-- that are owed after frames of writes that are answered well.
use Rattle.std.specs.Prelude.{◌≡◌, ℕ, ◌&&◌, not, true, false, if◌then◌else◌, All, Bool, IsNone, List, [], ◌∷◌, ◌++◌, filter, option_map, Some}
use Rattle.std.specs.List.{list_all, list_any}
use Rattle.hc_records.specs.Lists.{lowest}
use Rattle.hc_registers.specs.Blocks.{LineBlock}
use Rattle.hc_events.specs.Answering.{Judged, answered_by, has_good, judged_by, sends}
use Rattle.hc_events.specs.AnswerLaws.{HasOwnNames}
use Rattle.hc_events.specs.Arrivals.{Arrival}
use Rattle.hc_events.specs.Entries.{HistoryEntry, History, Opened, Edited, Came, Forgot, Wrote}
use Rattle.hc_events.specs.Heads.{Block, block_item, is_block, write_heads}
use Rattle.hc_events.specs.Owed.{confirms, known_bytes, last_write, owed_blocks}
use Rattle.hc_events.specs.Points.{line_of}
use Rattle.hc_events.specs.Steps.{SendsWrites, entries_after, write_faults}
use Rattle.hc_events.specs.WriteFrames.{frame_blocks}

-- an arrival with a good datagram of a block makes the bytes of the block's last write known; the known bytes of any other
-- block stay
abbrev pub GoodAnswersMakeKnown : Type 0
GoodAnswersMakeKnown =
    (history : History) (arrival : Arrival) (station number : ℕ)
    → known_bytes (Came arrival ∷ history) station number
    ≡ (if list_any (confirms (Block station number)) (judged_by history arrival)
    then option_map (λ write. write.1) (last_write history station number)
    else known_bytes history station number)

-- the judged datagram is a good answer of a register block
abbrev pub confirms_block : Judged → Bool
confirms_block datagram = is_block datagram.head.item && has_good datagram

-- an entry after a record leaves the knowledge of register blocks: it is no edit, no register write and no forgotten slave, and
-- if it is an arrival it confirms no register block. Such are posts, frames of tasks, and arrivals that are stale or that
-- answer frames of tasks; a read is no entry
abbrev pub leaves_known : History → HistoryEntry → Bool
leaves_known history (Opened groups) = false
leaves_known history (Edited edit) = false
leaves_known history (Wrote blocks) = false
leaves_known history (Forgot station) = false
leaves_known history (Came arrival) = not (list_any confirms_block (judged_by history arrival))
leaves_known history entry = true

-- each of these entries leaves the knowledge, the newest first
abbrev pub leave_known : History → List HistoryEntry → Bool
leave_known history [] = true
leave_known history (entry ∷ since) = leaves_known (since ++ history) entry && leave_known history since

-- a frame of register writes and its answer: what came before the frame was sent, what came after that, and the arrival
pub record Round : Type 0 where
  pub before : List HistoryEntry
  pub since : List HistoryEntry
  pub arrival : Arrival

-- the record at the sending of the frame
abbrev pub sent_at : History → Round → History
sent_at history round = round.before ++ history

-- the record at the arrival of the answer
abbrev pub answered_at : History → Round → History
answered_at history round = round.since ++ entries_after (sent_at history round) SendsWrites

-- a frame of the first owed blocks can be sent, and the arrival answers it and is good for each of its blocks; all that came in between leaves what is known
pub record IsDone (history : History) (round : Round) : Type 0 where
  pub quiet_before : leave_known history round.before ≡ true
  pub sent : IsNone (lowest (write_faults (sent_at history round) (owed_blocks (sent_at history round))))
  pub quiet_since : leave_known (entries_after (sent_at history round) SendsWrites) round.since ≡ true
  pub answered :
      answered_by (answered_at history round) round.arrival
      ≡ Some (record { heads = write_heads (frame_blocks (owed_blocks (sent_at history round))); since = round.since })
  pub good : list_all has_good (judged_by (answered_at history round) round.arrival) ≡ true

-- the record after the frame and its answer
abbrev pub after_done : History → Round → History
after_done history round = Came round.arrival ∷ answered_at history round

-- frames of register writes one after another, each done with its answer (`IsDone`)
abbrev pub AreDone : History → List Round → Type 0
AreDone history [] = Unit {0}
AreDone history (round ∷ rounds) = IsDone history round × AreDone (after_done history round) rounds

-- the record after all the frames and their answers
abbrev pub after_all_done : History → List Round → History
after_all_done history [] = history
after_all_done history (round ∷ rounds) = after_all_done (after_done history round) rounds

-- the blocks of all the frames, in the order in which they are sent
abbrev pub carried_blocks : History → List Round → List LineBlock
carried_blocks history [] = []
carried_blocks history (round ∷ rounds) = frame_blocks (owed_blocks (sent_at history round)) ++ carried_blocks (after_done history round) rounds

-- a block is one of these, by its name
abbrev pub is_carried : List LineBlock → LineBlock → Bool
is_carried blocks block = sends (block_item block) (Wrote blocks)

-- after the frames and their answers the blocks are owed that none of the frames carried; if they carried all owed blocks,
-- nothing is owed
pub record AreKnown (history : History) (rounds : List Round) : Type 0 where
  pub owed : owed_blocks (after_all_done history rounds) ≡ filter (λ block. not (is_carried (carried_blocks history rounds) block)) (owed_blocks history)
  pub nothing : All (λ block. is_carried (carried_blocks history rounds) block ≡ true) (owed_blocks history) → owed_blocks (after_all_done history rounds) ≡ []

-- `AreKnown` holds in a project's line, whatever posts, reads, frames of tasks and arrivals that confirm no register block came
-- in between
abbrev pub DoneWritesAreKnown : Type 0
DoneWritesAreKnown = (history : History) (rounds : List Round) → HasOwnNames (line_of history) → AreDone history rounds → AreKnown history rounds
