-- The configuration by a master: all that depends on the line alone.
use Rattle.std.specs.Prelude.{ℕ, ◌==◌, if◌then◌else◌, List, find, position, slice_get, option_and_then, option_map, Option, Some, None, Result, Ok, Err}
use Rattle.hc_records.specs.declared.faults.EditFault.{EditFault}
use Rattle.hc_records.specs.declared.faults.EditFault.TheVariants.{Absent, UnknownStation}
use Rattle.hc_records.specs.Line.{Member, State, is_at, line}
use Rattle.hc_records.specs.Edits.{is_declared_station}
use Rattle.hc_registers.specs.Blocks.{LineBlock, RegisterBlock, line_blocks, slave_blocks}
use Rattle.hc_places.specs.Table.{Table, table_of}

-- the datagrams with their headers, expected counters and parts, the variable places, and the register blocks
pub record Configuration : Type 0 where
  pub table : Table
  pub blocks : List LineBlock

-- the configuration of a line: its table, and its register blocks in line and block order
abbrev pub config : List Member → Configuration
config line = record { table = table_of line; blocks = line_blocks line }

-- the block with a number in the order of the slave with a station address
abbrev pub block_at : List Member → ℕ → ℕ → Option RegisterBlock
block_at line station number =
    option_and_then (λ member. slice_get (slave_blocks line member) number) (find (is_at station) line)

-- the block with a number in the order of the slave with a rank, with its slave's station address
abbrev pub block_of_rank : List Member → ℕ → ℕ → Option LineBlock
block_of_rank line rank number =
    option_and_then
    (λ member. option_map (λ block. record { station = member.slave.station; number = number; block = block }) (slice_get (slave_blocks line member) number))
    (find (λ member. member.rank == rank) line)

-- a block with its slave's station address
abbrev pub at_station : ℕ → RegisterBlock → ℕ × RegisterBlock
at_station station block = (station, block)

-- the block with a number in the order of the line
abbrev pub line_block_at : List Member → ℕ → Option (ℕ × RegisterBlock)
line_block_at line n = option_map (λ found. at_station found.station found.block) (slice_get (line_blocks line) n)

-- the station address of a slave of the line
abbrev pub station_at : List Member → ℕ → Option ℕ
station_at line n = option_map (λ member. member.slave.station) (slice_get line n)

-- the number that was found, or the fault if none was
abbrev pub found_or : Option ℕ → EditFault → Result ℕ EditFault
found_or None fault = Err fault
found_or (Some n) fault = Ok n

-- the position in the line of the slave with a station address
abbrev pub position_of : State → ℕ → Result ℕ EditFault
position_of state station =
    found_or (position (is_at station) (line state)) (if is_declared_station state station then Absent else UnknownStation)
