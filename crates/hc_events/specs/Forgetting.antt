-- Laws of slaves whose registers are forgotten, and of histories in which none is forgotten and each register write has a frame
-- of its own.
use Rattle.std.specs.Prelude.{◌≡◌, ℕ, ◌==◌, ◌&&◌, ◌||◌, not, Bool, true, false, All, List, ◌∷◌, length, map, None, Some}
use Rattle.std.specs.List.{list_all, list_any}
use Rattle.hc_records.specs.declared.records.Group.{Group}
use Rattle.hc_registers.specs.Blocks.{LineBlock}
use Rattle.hc_events.specs.Accepted.{just_opened}
use Rattle.hc_events.specs.Ages.{data_serial}
use Rattle.hc_events.specs.Answering.{Judged, Sending, Stale, answered_by, followed_by, forgets, is_forgetting, is_outdated, judged_by}
use Rattle.hc_events.specs.Arrivals.{Arrival}
use Rattle.hc_events.specs.Awaited.{awaited, is_write_sending}
use Rattle.hc_events.specs.Changes.{updates_of}
use Rattle.hc_events.specs.Entries.{HistoryEntry, History, Forgot, Wrote}
use Rattle.hc_events.specs.Heads.{Block, Datagram, Item}
use Rattle.hc_events.specs.Images.{slot_of}
use Rattle.hc_events.specs.Outputs.{value_bit}
use Rattle.hc_events.specs.Owed.{is_owed, known_bytes, owed_blocks}
use Rattle.hc_events.specs.Points.{epoch_of, next_serial, state_of}
use Rattle.hc_events.specs.Steps.{answers_to, entries_after_all}
use Rattle.hc_events.specs.WithoutForgetting.{FirstStep, step_of}
use Rattle.hc_events.specs.WithoutForgetting as first

-- the item is a register block of another slave than the one with a station address
abbrev pub is_of_other : ℕ → Item → Bool
is_of_other station (Datagram task d) = false
is_of_other station (Block other number) = not (other == station)

-- a sending carries another slave's block that is not out of date
abbrev pub carries_other : ℕ → Sending → Bool
carries_other station sending = list_any (λ head. is_of_other station head.item && not (is_outdated head.item sending.since)) sending.heads

-- a slave was forgotten: nothing is known of its blocks, so each of them is owed; of other slaves the same is known; and nothing else changes: line, epoch, serial, images, output values, changes, the
-- frames of tasks that are awaited, and the writes of other slaves' blocks
pub record IsForgotten (history : History) (station : ℕ) : Type 0 where
  pub own : (number : ℕ) → known_bytes (Forgot station ∷ history) station number ≡ None
  pub others : (other number : ℕ) → (other == station) ≡ false → known_bytes (Forgot station ∷ history) other number ≡ known_bytes history other number
  pub owed : (block : LineBlock) → is_owed (Forgot station ∷ history) block ≡ ((block.station == station) || is_owed history block)
  pub state : state_of (Forgot station ∷ history) ≡ state_of history
  pub epoch : epoch_of (Forgot station ∷ history) ≡ epoch_of history
  pub serial : next_serial (Forgot station ∷ history) ≡ next_serial history
  pub slots : (task d : ℕ) → slot_of (Forgot station ∷ history) task d ≡ slot_of history task d
  pub dates : (task d : ℕ) → data_serial (Forgot station ∷ history) task d ≡ data_serial history task d
  pub values : (variable k : ℕ) → value_bit (Forgot station ∷ history) variable k ≡ value_bit history variable k
  pub updates : updates_of (Forgot station ∷ history) ≡ updates_of history
  pub frames :
      (serial : ℕ) (sending : Sending) → awaited history serial ≡ Some sending → is_write_sending sending ≡ false
      → awaited (Forgot station ∷ history) serial ≡ Some (followed_by (Forgot station) sending)
  pub writes :
      (serial : ℕ) (sending : Sending) → awaited history serial ≡ Some sending → carries_other station sending ≡ true
      → awaited (Forgot station ∷ history) serial ≡ Some (followed_by (Forgot station) sending)
  pub judged :
      (since : List HistoryEntry) (item : Item) → is_of_other station item ≡ true → is_outdated item (Forgot station ∷ since) ≡ is_outdated item since

-- `IsForgotten` holds for any slave in any history
abbrev pub ForgettingLosesRegistersAlone : Type 0
ForgettingLosesRegistersAlone = (history : History) (station : ℕ) → IsForgotten history station

-- a datagram that came back of a block of the slave is stale
abbrev pub IsStaleFor : ℕ → Judged → Type 0
IsStaleFor station datagram = (number : ℕ) → datagram.head.item ≡ Block station number → datagram.verdict ≡ Stale

-- a write of a slave's block that was sent before the slave was forgotten confirms nothing: whatever comes back of it is stale
abbrev pub ForgottenWritesAreStale : Type 0
ForgottenWritesAreStale =
    (history : History) (arrival : Arrival) (sending : Sending) (station : ℕ) → answered_by history arrival ≡ Some sending
    → list_any (forgets station) sending.since ≡ true → All (IsStaleFor station) (judged_by history arrival)

-- the words of a history say what the words for histories without forgetting say
pub record SaysAsAtFirst (history : History) : Type 0 where
  pub judged : (arrival : Arrival) → first.judged_by history arrival ≡ judged_by history arrival
  pub awaits : (serial : ℕ) → first.awaited history serial ≡ awaited history serial
  pub slots : (task d : ℕ) → first.slot_of history task d ≡ slot_of history task d
  pub dates : (task d : ℕ) → first.data_serial history task d ≡ data_serial history task d
  pub updates : first.updates_of history ≡ updates_of history
  pub known : (station number : ℕ) → first.known_bytes history station number ≡ known_bytes history station number
  pub owed : first.owed_blocks history ≡ owed_blocks history

-- an entry is no frame of register writes, or one of a single block
abbrev pub writes_one : HistoryEntry → Bool
writes_one (Wrote blocks) = length blocks == 1
writes_one entry = true

-- `SaysAsAtFirst` holds for each history in which no slave was forgotten and every register write was sent in a frame of its
-- own
abbrev pub HistoriesWithoutForgetting : Type 0
HistoriesWithoutForgetting =
    (history : History) → list_any is_forgetting history ≡ false → list_all writes_one history ≡ true → SaysAsAtFirst history

-- edits, posts, sendings of tasks, register writes of one block each, arrivals and reads (`FirstStep`) are answered, from a project's opening on, as by the
-- words of `WithoutForgetting`, and leave the same history
pub record AreAnsweredAsAtFirst (groups : List Group) (steps : List FirstStep) : Type 0 where
  pub answers : first.answers_to (just_opened groups) steps ≡ answers_to (just_opened groups) (map step_of steps)
  pub entries : first.entries_after_all (just_opened groups) steps ≡ entries_after_all (just_opened groups) (map step_of steps)

-- `AreAnsweredAsAtFirst` holds for any such events of any project
abbrev pub EventsWithoutForgetting : Type 0
EventsWithoutForgetting = (groups : List Group) (steps : List FirstStep) → AreAnsweredAsAtFirst groups steps
