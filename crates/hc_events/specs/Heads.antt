-- The heads of a sent frame's datagrams, with the working counter that is expected back.
use Rattle.std.specs.Prelude.{ℕ, ◌==◌, ◌&&◌, Bool, true, false, List, length, map}
use Rattle.hc_records.specs.Line.{Member}
use Rattle.hc_registers.specs.Blocks.{LineBlock}
use Rattle.hc_places.specs.Table.{datagram_of}
use Rattle.hc_frames.specs.declared.commands.Command.{Command}
use Rattle.hc_frames.specs.declared.commands.Command.TheVariants.{Fpwr, Lrw}
use Rattle.hc_frames.specs.FrameText.{station_address}
use Rattle.hc_registers.specs.declared.counters.TheConstants.{WRITE_COUNT}
use Rattle.hc_events.specs.Sendings.{Named}

-- the item of a datagram: a task's datagram, by the task and its number; or a register block, by the slave's station address
-- and its number in the slave's order
pub data Item : Type 0 where
  Datagram : ℕ → ℕ → Item
  Block : ℕ → ℕ → Item

-- both are the same datagram of a task, by task and number, or both the same register block, by station address and number
abbrev pub same_item : Item → Item → Bool
same_item (Datagram task d) (Datagram other e) = (task == other) && (d == e)
same_item (Block station number) (Block other n) = (station == other) && (number == n)
same_item (Datagram task d) (Block other n) = false
same_item (Block station number) (Datagram other e) = false

-- the item is a register block, not a task's datagram
abbrev pub is_block : Item → Bool
is_block (Datagram task d) = false
is_block (Block station number) = true

-- the head of a datagram: its item, its command, its address, its number of data bytes, and its expected working counter
pub record Head : Type 0 where
  pub item : Item
  pub command : Command
  pub address : ℕ
  pub length : ℕ
  pub expected : ℕ

-- a task's datagram as what a sent datagram carries: its task and its number
abbrev pub item_of : Named → Item
item_of named = Datagram named.0 named.1

-- the head of a task's datagram by the line: an LRW with the datagram's logical address, length and expected working counter
abbrev pub data_head : List Member → Named → Head
data_head line named =
    let found = datagram_of line named.0 named.1 in
    record { item = item_of named; command = Lrw; address = found.address; length = found.length; expected = found.expected }

-- the heads of a frame's datagrams by the line, in order
abbrev pub data_heads : List Member → List Named → List Head
data_heads line frame = map (data_head line) frame

-- a register block as an item: its slave's station address, and its number in the slave's order
abbrev pub block_item : LineBlock → Item
block_item block = Block block.station block.number

-- the head of a block's write: FPWR to its register at the slave's station address, as many data bytes as the block has, and 1 as the expected working counter
abbrev pub write_head : LineBlock → Head
write_head block = record {
  item = block_item block;
  command = Fpwr;
  address = station_address block.station block.block.register;
  length = length block.block.bytes;
  expected = WRITE_COUNT;
}

-- the heads of a frame that writes these blocks, in order
abbrev pub write_heads : List LineBlock → List Head
write_heads blocks = map write_head blocks
