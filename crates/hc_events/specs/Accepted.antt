-- The properties of an accepted entry, and of a record that events led to.
use Rattle.std.specs.Prelude.{◌≡◌, ℕ, ◌<◌, ◌≤◌, ◌⊎◌, true, false, All, Contains, List, [], ◌∷◌, length, map, take, None}
use Rattle.hc_records.specs.declared.limits.TheConstants.{TASKS}
use Rattle.hc_records.specs.declared.records.Group.{Group}
use Rattle.hc_records.specs.Lists.{lowest}
use Rattle.hc_records.specs.Line.{Member}
use Rattle.hc_records.specs.Image.{datagram_count, output_length, task_places}
use Rattle.hc_records.specs.Edits.{edit_faults, is_declared_station}
use Rattle.hc_registers.specs.Blocks.{LineBlock}
use Rattle.hc_frames.specs.declared.limits.TheConstants.{SETUP_SERIAL}
use Rattle.hc_events.specs.Entries.{HistoryEntry, History, Opened, Edited, Posted, Sent, Wrote, Came, Forgot, Cleared, Unplugged}
use Rattle.hc_events.specs.Points.{line_of, next_serial, opened_with, state_of}
use Rattle.hc_events.specs.Sendings.{Named, sendings_of}
use Rattle.hc_events.specs.Owed.{is_in_line, last_write, owed_blocks}
use Rattle.hc_events.specs.Ready.{is_ready}
use Rattle.hc_events.specs.UnderWay.{further_blocks}
use Rattle.hc_events.specs.WriteFrames.{frame_blocks}
use Rattle.hc_events.specs.Steps.{Step, entries_after_all}

-- a datagram of the line
abbrev pub IsInLine : List Member → Named → Type 0
IsInLine line named = named.1 < datagram_count (task_places named.0 line)

-- a post of a task that there is, with as many bytes as the task has outputs
pub record IsPost (line : List Member) (task : ℕ) (bytes : List ℕ) : Type 0 where
  pub in_range : task < TASKS
  pub fits : length bytes ≡ output_length (task_places task line)

-- the frames of a sending of tasks, by their datagrams
abbrev pub frames_of : List Member → ℕ → List ℕ → List (List Named)
frames_of line serial tasks = map (λ sending. sending.datagrams) (sendings_of line serial tasks)

-- one of the frames of a sending of tasks, with datagrams of the line, while nothing is owed or each task that it carries is
-- ready
pub record IsFrame (history : History) (frame : List Named) : Type 0 where
  pub programmed : (owed_blocks history ≡ []) ⊎ All (λ (named : Named). is_ready history named.0 ≡ true) frame
  pub in_line : All (IsInLine (line_of history)) frame
  pub tasks : List ℕ
  pub serial : ℕ
  pub one : Contains (frames_of (line_of history) serial tasks) frame

-- the first of these blocks
pub record IsFirst (block : LineBlock) (blocks : List LineBlock) : Type 0 where
  pub rest : List LineBlock
  pub first : blocks ≡ block ∷ rest

-- register blocks that one frame writes while these are owed: the first of them alone, or the first ones, as many as one frame holds
abbrev pub IsFirstWrite : List LineBlock → List LineBlock → Type 0
IsFirstWrite owed blocks = (blocks ≡ take 1 owed) ⊎ (blocks ≡ frame_blocks owed)

-- register blocks that one frame writes: the first of the owed ones, one or more, or the first ones that are not under way, as
-- many as one frame holds
pub record IsWrite (history : History) (blocks : List LineBlock) : Type 0 where
  pub some : 0 < length blocks
  pub first : IsFirstWrite (owed_blocks history) blocks ⊎ (blocks ≡ frame_blocks (further_blocks history))

-- the frame with a serial, if it is one of register writes, carries the first owed block, or the first ones
abbrev pub carries_first : History → ℕ → Type 0
carries_first [] serial = Unit {0}
carries_first (Opened groups ∷ history) serial = Unit {0}
carries_first (Wrote blocks ∷ history) serial =
    (next_serial history ≡ serial → IsFirstWrite (owed_blocks history) blocks) × carries_first history serial
carries_first (entry ∷ history) serial = carries_first history serial

-- a declared slave is cleared; if it is in the line it was forgotten first, so that none of its writes counts
pub record IsClearing (history : History) (station : ℕ) : Type 0 where
  pub declared : is_declared_station (state_of history) station ≡ true
  pub forgotten : is_in_line history station ≡ true → (number : ℕ) → last_write history station number ≡ None

-- a declared slave outside the line is unplugged
pub record IsUnplugging (history : History) (station : ℕ) : Type 0 where
  pub declared : is_declared_station (state_of history) station ≡ true
  pub outside : is_in_line history station ≡ false

-- what a record accepts: an edit that the state accepts, a post (`IsPost`), a frame of tasks (`IsFrame`), register blocks (`IsWrite`), any arrival that can
-- be read, a slave of the line that is forgotten, a slave that is cleared (`IsClearing`), and one outside the line that is unplugged (`IsUnplugging`). A
-- project is opened once, at the beginning
abbrev pub IsAccepted : History → HistoryEntry → Type 0
IsAccepted history (Opened groups) = ⊥
IsAccepted history (Edited edit) = lowest (edit_faults (state_of history) edit) ≡ None
IsAccepted history (Posted task bytes) = IsPost (line_of history) task bytes
IsAccepted history (Sent frame) = IsFrame history frame
IsAccepted history (Wrote blocks) = IsWrite history blocks
IsAccepted history (Came arrival) = Unit {0}
IsAccepted history (Forgot station) = is_in_line history station ≡ true
IsAccepted history (Cleared station) = IsClearing history station
IsAccepted history (Unplugged station) = IsUnplugging history station

-- the record of a project in which nothing has happened
abbrev pub just_opened : List Group → History
just_opened groups = Opened groups ∷ []

-- the record that events lead to from a project's opening
abbrev pub history_of : List Group → List Step → History
history_of groups steps = entries_after_all (just_opened groups) steps

-- each entry after the opening was accepted when it came
abbrev pub AreAccepted : History → Type 0
AreAccepted [] = ⊥
AreAccepted (Opened groups ∷ history) = history ≡ []
AreAccepted (entry ∷ history) = IsAccepted history entry × AreAccepted history

-- the property of each record that events lead to, which the laws of such records require: each entry after the opening was
-- accepted when it came, and there are no more sendings than serials
pub record IsReachable (history : History) : Type 0 where
  pub accepted : AreAccepted history
  pub few : next_serial history ≤ SETUP_SERIAL

-- a record that events lead to from a project's opening, with that project's groups
pub record IsLedTo (groups : List Group) (history : History) : Type 0 where
  pub reachable : IsReachable history
  pub groups_are : opened_with history ≡ groups

-- each record that events lead to is such a record (`IsLedTo`)
abbrev pub RecordsAreReachable : Type 0
RecordsAreReachable = (groups : List Group) (steps : List Step) → IsLedTo groups (history_of groups steps)
