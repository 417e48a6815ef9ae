-- Laws of register blocks that are under way, and of frames of further ones.
use Rattle.std.specs.Prelude.{◌≡◌, ℕ, ◌==◌, true, false, All, Contains, List, ◌∷◌, Some}
use Rattle.std.specs.List.{list_any}
use Rattle.hc_registers.specs.Blocks.{LineBlock, line_blocks}
use Rattle.hc_events.specs.Accepted.{IsReachable}
use Rattle.hc_events.specs.AnswerLaws.{HasOwnNames}
use Rattle.hc_events.specs.Answering.{Sending, followed_by, is_forgetting, is_outdated, judged_by}
use Rattle.hc_events.specs.Arrivals.{Arrival}
use Rattle.hc_events.specs.Awaited.{awaited}
use Rattle.hc_events.specs.Entries.{HistoryEntry, History, Came, Wrote}
use Rattle.hc_events.specs.Heads.{Item, block_item, same_item}
use Rattle.hc_events.specs.Owed.{confirms, is_owed, known_bytes, last_write, owed_blocks}
use Rattle.hc_events.specs.Points.{line_of}
use Rattle.hc_events.specs.Steps.{SendsFurther, SendsWrites, answer_to, entries_after}
use Rattle.hc_events.specs.UnderWay.{further_blocks, is_under_way}
use Rattle.hc_events.specs.WriteFrames.{frame_blocks}

-- a further frame is answered and recorded as a frame of the first owed blocks is
pub record IsAsAtFirst (history : History) : Type 0 where
  pub answer : answer_to history SendsFurther ≡ answer_to history SendsWrites
  pub entries : entries_after history SendsFurther ≡ entries_after history SendsWrites

-- `IsAsAtFirst` holds if no owed block is under way
abbrev pub FurtherIsAsAtFirst : Type 0
FurtherIsAsAtFirst =
    (history : History) → All (λ block. is_under_way history block.station block.number ≡ false) (owed_blocks history) → IsAsAtFirst history

-- a frame carries the item
abbrev pub CarriesItem : Item → Sending → Type 0
CarriesItem item sending = list_any (λ head. same_item item head.item) sending.heads ≡ true

-- after one more entry a frame is awaited as before, and its items are out of date exactly if they were before, so that its
-- answer is judged as before
pub record IsLeftAwaited (history : History) (entry : HistoryEntry) (serial : ℕ) (sending : Sending) : Type 0 where
  pub there : awaited (entry ∷ history) serial ≡ Some (followed_by entry sending)
  pub judged : (item : Item) → CarriesItem item sending → is_outdated item (entry ∷ sending.since) ≡ is_outdated item sending.since

-- `IsLeftAwaited` holds for each frame that is awaited, of tasks or of register writes, if a further frame is sent and no slave
-- was forgotten since
abbrev pub FurtherLeavesAwaited : Type 0
FurtherLeavesAwaited =
    (history : History) (serial : ℕ) (sending : Sending) → awaited history serial ≡ Some sending → list_any is_forgetting sending.since ≡ false
    → IsLeftAwaited history (Wrote (frame_blocks (further_blocks history))) serial sending

-- an arrival with another serial than a block's last write has leaves what is known of the block
abbrev pub OlderAnswersLeaveKnown : Type 0
OlderAnswersLeaveKnown =
    (history : History) (arrival : Arrival) (station number serial : ℕ) (bytes : List ℕ) → last_write history station number ≡ Some (serial, bytes)
    → (arrival.serial == serial) ≡ false → known_bytes (Came arrival ∷ history) station number ≡ known_bytes history station number

-- a block that is under way is owed
abbrev pub UnderWayIsOwed : Type 0
UnderWayIsOwed = (history : History) (block : LineBlock) → is_under_way history block.station block.number ≡ true → is_owed history block ≡ true

-- a block of the line whose own datagram came back good is no longer owed, whatever else is under way
abbrev pub GoodAnswersEndOwing : Type 0
GoodAnswersEndOwing =
    (history : History) (arrival : Arrival) (block : LineBlock) → IsReachable history → HasOwnNames (line_of history) → Contains (line_blocks (line_of history)) block
    → list_any (confirms (block_item block)) (judged_by history arrival) ≡ true → is_owed (Came arrival ∷ history) block ≡ false
