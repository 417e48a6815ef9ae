-- Which register blocks the slaves are known to have, and which are owed to them (this project's profile).
use Rattle.std.specs.Prelude.{ℕ, ◌==◌, ◌&&◌, ◌||◌, not, is_some, Bool, false, if◌then◌else◌, List, [], ◌∷◌, filter, find, Option, Some, None, option_and_then, option_map}
use Rattle.std.specs.Option.{option_map_or, option_or}
use Rattle.std.specs.List.{list_any}
use Rattle.std.specs.Str.{bytes_eq}
use Rattle.hc_records.specs.Edits.{slave_at}
use Rattle.hc_registers.specs.Blocks.{LineBlock, line_blocks}
use Rattle.hc_events.specs.Entries.{History, Opened, Edited, Wrote, Came, Forgot}
use Rattle.hc_events.specs.Points.{line_of, next_serial, state_of}
use Rattle.hc_events.specs.Heads.{Item, Block, block_item, same_item}
use Rattle.hc_events.specs.Answering.{Judged, has_good, judged_by}

-- the slave with a station address is in the line
abbrev pub is_in_line : History → ℕ → Bool
is_in_line history station = is_some (slave_at (state_of history) station)

-- of blocks that one frame writes the one with a station address and a number, if it is among them
abbrev pub block_among : ℕ → ℕ → List LineBlock → Option LineBlock
block_among station number blocks = find (λ block. same_item (Block station number) (block_item block)) blocks

-- a write of a block: the serial of the frame that carries it, and the bytes
abbrev pub write_of : ℕ → LineBlock → ℕ × List ℕ
write_of serial block = (serial, block.block.bytes)

-- the last write of a block since its slave was connected or last forgotten: its serial and its bytes
abbrev pub last_write : History → ℕ → ℕ → Option (ℕ × List ℕ)
last_write [] station number = None
last_write (Opened groups ∷ history) station number = None
last_write (Wrote blocks ∷ history) station number =
    option_or (option_map (write_of (next_serial history)) (block_among station number blocks)) (last_write history station number)
last_write (Edited edit ∷ history) station number =
    if is_in_line history station then last_write history station number else None
last_write (Forgot other ∷ history) station number = if station == other then None else last_write history station number
last_write (entry ∷ history) station number = last_write history station number

-- a judged datagram is of this item, and good
abbrev pub confirms : Item → Judged → Bool
confirms item datagram = same_item item datagram.head.item && has_good datagram

-- in the frame with a serial the datagram of a block has had a good answer
abbrev pub was_confirmed : History → ℕ → Item → Bool
was_confirmed [] serial item = false
was_confirmed (Opened groups ∷ history) serial item = false
was_confirmed (Came arrival ∷ history) serial item =
    ((arrival.serial == serial) && list_any (confirms item) (judged_by history arrival)) || was_confirmed history serial item
was_confirmed (entry ∷ history) serial item = was_confirmed history serial item

-- the known bytes of a block of a slave in the line: those of its last write if the block's datagram has had a good answer;
-- otherwise none
abbrev pub if_confirmed : History → Item → ℕ × List ℕ → Option (List ℕ)
if_confirmed history item write = if was_confirmed history write.0 item then Some write.1 else None

-- the bytes that the slave with a station address is known to have in its block with a number: those of its last write since it
-- came into the line or was last forgotten, if that had a good answer
abbrev pub known_bytes : History → ℕ → ℕ → Option (List ℕ)
known_bytes history station number = option_and_then (if_confirmed history (Block station number)) (last_write history station number)

-- a block is owed if its known bytes are not those that the line configures, or if there are none
abbrev pub is_owed : History → LineBlock → Bool
is_owed history block = not (option_map_or (bytes_eq block.block.bytes) (known_bytes history block.station block.number) false)

-- the owed blocks, in line order and block order
abbrev pub owed_blocks : History → List LineBlock
owed_blocks history = filter (is_owed history) (line_blocks (line_of history))
