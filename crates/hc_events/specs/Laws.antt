-- Laws that follow from the definitions. Each is the contract of a function of `laws`.
use Rattle.std.specs.Prelude.{◌≡◌, ℕ, IsNone, IsSome, IsTrue, List, ◌∷◌, length, map, Some, None}
use Rattle.std.specs.List.{list_any, range_with_len}
use Rattle.hc_records.specs.declared.edit.Edit.{Edit}
use Rattle.hc_registers.specs.Blocks.{LineBlock, line_blocks, same_block}
use Rattle.hc_events.specs.Arrivals.{Arrival}
use Rattle.hc_events.specs.Entries.{History, Edited, Came}
use Rattle.hc_events.specs.Points.{epoch_of, line_of, next_serial, state_of}
use Rattle.hc_events.specs.Sendings.{line_data_length}
use Rattle.hc_events.specs.Answering.{answered_by}
use Rattle.hc_events.specs.Images.{slot_of}
use Rattle.hc_events.specs.Owed.{is_owed}
use Rattle.hc_events.specs.Steps.{Step, Edits, edit_refused, entries_after, entries_after_all, proposal}
use Rattle.hc_events.specs.Accepted.{IsReachable}

-- no sending is answered twice: once an arrival has answered one, no arrival with its serial answers any, whatever comes in between
abbrev pub AnswersOnce : Type 0
AnswersOnce =
    (history : History) (first second : Arrival) (steps : List Step) → IsSome (answered_by history first) → second.serial ≡ first.serial
    → answered_by (entries_after_all (Came first ∷ history) steps) second ≡ None

-- the data that a task reads of a datagram have the datagram's length
abbrev pub SlotsFit : Type 0
SlotsFit =
    (history : History) (task d : ℕ) (bytes : List ℕ) → slot_of history task d ≡ Some bytes
    → length bytes ≡ line_data_length (line_of history) (task, d)

-- after an accepted edit no datagram of any task has data
abbrev pub EditsLeaveNoSlot : Type 0
EditsLeaveNoSlot =
    (history : History) (edit : Edit) (task d : ℕ) → IsNone (edit_refused history edit) → slot_of (entries_after history (Edits edit)) task d ≡ None

-- the frames of tasks have the next serials, in order
abbrev pub ProposalsAreNumbered : Type 0
ProposalsAreNumbered =
    (history : History) (tasks : List ℕ)
    → map (λ sending. sending.serial) (proposal history tasks) ≡ range_with_len (next_serial history) (length (proposal history tasks))

-- an edit changes nothing in the owing of a block that the line had before it with the same bytes
abbrev pub UnmovedIsOwedAsBefore : Type 0
UnmovedIsOwedAsBefore =
    (history : History) (edit : Edit) (block : LineBlock) → IsTrue (list_any (same_block block) (line_blocks (line_of history)))
    → is_owed (Edited edit ∷ history) block ≡ is_owed history block

-- the epoch of the state is the number of accepted edits
abbrev pub EpochsAreCounted : Type 0
EpochsAreCounted = (history : History) → IsReachable history → (state_of history).epoch ≡ epoch_of history
