-- The bytes that the register of a block may hold (this project's profile). A register with known bytes holds these; if nothing
-- is known, these definitions still tell the bytes that it may hold.
use Rattle.std.specs.Prelude.{ℕ, ◌==◌, ◌&&◌, ◌||◌, not, Bool, true, false, if◌then◌else◌, List, [], ◌∷◌, Option}
use Rattle.std.specs.Option.{option_map_or}
use Rattle.std.specs.List.{list_any}
use Rattle.hc_records.specs.declared.edit.Edit.{Edit}
use Rattle.hc_registers.specs.Blocks.{LineBlock}
use Rattle.hc_events.specs.Entries.{History, Opened, Edited, Wrote, Came, Cleared, Unplugged}
use Rattle.hc_events.specs.Heads.{Block}
use Rattle.hc_events.specs.Answering.{judged_by}
use Rattle.hc_events.specs.Owed.{block_among, confirms, is_in_line, last_write}

-- whether a register is unknown, so that it may hold anything, and the contents that it may have got from this line, the newest first
pub record MayHold : Type 0 where
  pub unknown : Bool
  pub contents : List (List ℕ)

-- a register before anything was said of it: unknown, and without contents
abbrev pub unknown_register : MayHold
unknown_register = record { unknown = true; contents = [] }

-- a register of zeros
abbrev pub cleared_register : MayHold
cleared_register = record { unknown = false; contents = [] }

-- a slave that comes into the line makes its registers unknown, and they keep their contents
abbrev pub held_after_coming : Bool → MayHold → MayHold
held_after_coming comes held = record { unknown = comes || held.unknown; contents = held.contents }

-- a frame of writes adds the bytes that it has for the block, if it has some
abbrev pub held_after_write : Option LineBlock → MayHold → MayHold
held_after_write written held = record {
  unknown = held.unknown;
  contents = option_map_or (λ (block : LineBlock). block.block.bytes ∷ held.contents) written held.contents;
}

-- after a good answer the register may hold only the bytes of the block's last write
abbrev pub held_after_answer : Bool → Option (ℕ × List ℕ) → MayHold → MayHold
held_after_answer good write held =
    if good then record { unknown = false; contents = option_map_or (λ (found : ℕ × List ℕ). found.1 ∷ []) write [] } else held

-- the slave with a station address is not in the line, and the edit brings it there
abbrev pub comes : History → Edit → ℕ → Bool
comes history edit station = not (is_in_line history station) && is_in_line (Edited edit ∷ history) station

-- the bytes that the register of the block with a number may hold in the slave with a station address. Forgotten registers,
-- answers that are stale or that missed, and edits that do not bring the slave change nothing of it
abbrev pub may_hold : History → ℕ → ℕ → MayHold
may_hold [] station number = unknown_register
may_hold (Opened groups ∷ history) station number = unknown_register
may_hold (Edited edit ∷ history) station number = held_after_coming (comes history edit station) (may_hold history station number)
may_hold (Wrote blocks ∷ history) station number = held_after_write (block_among station number blocks) (may_hold history station number)
may_hold (Came arrival ∷ history) station number =
    held_after_answer (list_any (confirms (Block station number)) (judged_by history arrival)) (last_write history station number) (may_hold history station number)
may_hold (Cleared other ∷ history) station number = if station == other then cleared_register else may_hold history station number
may_hold (entry ∷ history) station number = may_hold history station number

-- the slave with a station address was reported to be unplugged, and has not been in the line since
abbrev pub is_unplugged : History → ℕ → Bool
is_unplugged [] station = false
is_unplugged (Opened groups ∷ history) station = false
is_unplugged (Edited edit ∷ history) station = is_unplugged history station && not (is_in_line (Edited edit ∷ history) station)
is_unplugged (Unplugged other ∷ history) station = (station == other) || is_unplugged history station
is_unplugged (entry ∷ history) station = is_unplugged history station
