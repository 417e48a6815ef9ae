-- Laws of the blocks and of the working counter: the fields of a block are read as they were written, a slave's blocks are
-- apart, and a datagram's counter is counted in one pass. Each is the contract of a function of `laws`.
use Rattle.std.specs.Prelude.{◌≡◌, ℕ, ◌+◌, ◌/◌, ◌%◌, ◌<◌, ◌≤◌, ◌^◌, length, slice_index, sum_by, All, AllPairs, Contains, IsTrue, List, None}
use Rattle.hc_records.specs.declared.limits.TheConstants.{MOST_AREA_BITS}
use Rattle.hc_records.specs.declared.records.Area.{Area}
use Rattle.hc_records.specs.declared.keys.Key.{Key}
use Rattle.hc_records.specs.Keys.{is_before}
use Rattle.hc_records.specs.Area.{width}
use Rattle.hc_records.specs.Image.{counter_share}
use Rattle.hc_records.specs.Limits.{IsSlaveInside}
use Rattle.hc_records.specs.Line.{Member}
use Rattle.hc_registers.specs.declared.fmmu.Mapping.{Mapping}
use Rattle.hc_registers.specs.Blocks.{IsMappable, RegisterBlock, activation, byte_count, control_of, last_bit, mapped_bytes, slave_blocks, sync_manager_bytes, touched_bytes, type_of}
use Rattle.hc_registers.specs.Counting.{counted_from}
use Rattle.hc_registers.specs.Fields.{long_at, word_at}

-- the fields of the sync manager block of an area
pub record SyncManagerFields (area : Area) : Type 0 where
  pub start_address : word_at (sync_manager_bytes area) 0 ≡ area.phys
  pub length : word_at (sync_manager_bytes area) 2 ≡ byte_count (width area)
  pub control : slice_index (sync_manager_bytes area) 4 ≡ control_of area.dir
  pub status : slice_index (sync_manager_bytes area) 5 ≡ 0
  pub activate : slice_index (sync_manager_bytes area) 6 ≡ activation (width area)
  pub pdi_control : slice_index (sync_manager_bytes area) 7 ≡ 0

-- the fields of the block of any area are read as they were written, if its bytes can be written into the block
abbrev pub SyncManagersAreRead : Type 0
SyncManagersAreRead = (area : Area) → area.phys < 2 ^ 16 → width area ≤ MOST_AREA_BITS → SyncManagerFields area

-- the fields of the FMMU block of an area that is mapped
pub record FmmuFields (area : Area) (mapping : Mapping) : Type 0 where
  pub logical_start_address : long_at (mapped_bytes area mapping) 0 ≡ mapping.address + mapping.bit / 8
  pub length : word_at (mapped_bytes area mapping) 4 ≡ touched_bytes mapping.bit (width area)
  pub logical_start_bit : slice_index (mapped_bytes area mapping) 6 ≡ mapping.bit % 8
  pub logical_stop_bit : slice_index (mapped_bytes area mapping) 7 ≡ last_bit mapping.bit (width area) % 8
  pub physical_start_address : word_at (mapped_bytes area mapping) 8 ≡ area.phys
  pub physical_start_bit : slice_index (mapped_bytes area mapping) 10 ≡ 0
  pub kind : slice_index (mapped_bytes area mapping) 11 ≡ type_of area.dir
  pub activate : slice_index (mapped_bytes area mapping) 12 ≡ 1

-- the fields of the block of any area and mapping are read as they were written, if their numbers fit the block
abbrev pub FmmusAreRead : Type 0
FmmusAreRead = (area : Area) (mapping : Mapping) → area.phys < 2 ^ 16 → IsMappable area mapping → FmmuFields area mapping

-- a register that a block takes
pub record CoversRegister (block : RegisterBlock) (register : ℕ) : Type 0 where
  pub from : block.register ≤ register
  pub below : register < block.register + length block.bytes

-- two blocks take no register in common
abbrev pub AreApart : RegisterBlock → RegisterBlock → Type 0
AreApart a b = (register : ℕ) → CoversRegister a register → ¬ (CoversRegister b register)

-- the blocks of a slave that keeps the limits of a project, in any line, take no register in common
abbrev pub BlocksAreApart : Type 0
BlocksAreApart = (line : List Member) (member : Member) → IsSlaveInside member.slave → AllPairs AreApart (slave_blocks line member)

-- if keys ascend, and so do ranks that have each key's, the slaves with these ranks add the same number as the areas in their
-- order
abbrev pub AscendingKeysAreCounted : Type 0
AscendingKeysAreCounted =
    (keys : List Key) (ranks : List ℕ) → AllPairs (λ a b. IsTrue (is_before a b)) keys → AllPairs (λ a b. a < b) ranks
    → All (λ key. Contains ranks key.rank) keys → sum_by (counter_share keys) ranks ≡ counted_from None keys
