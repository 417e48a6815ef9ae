-- The pairs of a line: bit x of the logical address space and bit m of a slave's memory belong together (ETG.1000.4, 6.6)
--   a) by the bytes of an FMMU block: `IsPair` of hc_machine, `IsBlockPair` if the block is at the register of an FMMU
--   b) by the place that packing gives an area: `IsAreaPair`
--   c) by (b) for an area of the line: `LinePairs`, and `LinePairsIn` for areas of one direction
--   d) by (a) for a block of the line: `LineBlockPairs`
--   e) by (a) for a block in a machine's memory: `MachinePairs`
-- Laws: (c) and (d) are equal (`LinesPairTheirAreas`); in a programmed machine (e) and (c) are equal (`ProgrammedSlavesPairTheirAreas`).
use Rattle.std.specs.Prelude.{◌≡◌, ℕ, ◌+◌, ◌*◌, ◌<◌, ◌≤◌, Contains, List, Some, slice_get}
use Rattle.hc_records.specs.declared.keys.Key.{Key}
use Rattle.hc_records.specs.declared.records.Area.{Area}
use Rattle.hc_records.specs.Area.{width}
use Rattle.hc_records.specs.Line.{Member}
use Rattle.hc_registers.specs.declared.fmmu.Mapping.{Mapping}
use Rattle.hc_registers.specs.declared.registers.TheConstants.{FMMU_BLOCKS, FMMU_BLOCK_BYTES}
use Rattle.hc_registers.specs.Blocks.{LineBlock, line_blocks, mapping_of}
use Rattle.hc_machine.specs.declared.limits.TheConstants.{FMMUS, MEMORY_BITS}
use Rattle.hc_machine.specs.Laws.{IsPair}

-- (b) for some k below the area's width, x is the area's k-th bit in the datagram and m the k-th bit of its memory
pub record IsAreaPair (area : Area) (mapping : Mapping) (x m : ℕ) : Type 0 where
  pub k : ℕ
  pub below : k < width area
  pub logical : x ≡ 8 * mapping.address + mapping.bit + k
  pub memory : m ≡ 8 * area.phys + k

-- the bits of an area lie in its slave's memory
abbrev pub LiesInMemory : Area → Type 0
LiesInMemory area = 8 * area.phys + width area ≤ MEMORY_BITS

-- the key of the area at an index of a slave's record
abbrev pub member_area_key : Member → ℕ → Area → Key
member_area_key member index area = record { dir = area.dir; rank = member.rank; area = index }

-- the area at an index of the record of a slave of the line is mapped, there
pub record IsMapped (line : List Member) (member : Member) (index : ℕ) (area : Area) (mapping : Mapping) : Type 0 where
  pub in_line : Contains line member
  pub in_record : slice_get member.slave.areas index ≡ Some area
  pub mapped : mapping_of line area.task (member_area_key member index area) ≡ Some mapping

-- (c) x and m are a pair of an area of the slave with a station address, by the area's mapping
pub record LinePairs (line : List Member) (station x m : ℕ) : Type 0 where
  pub member : Member
  pub index : ℕ
  pub area : Area
  pub mapping : Mapping
  pub station_is : member.slave.station ≡ station
  pub is_mapped : IsMapped line member index area mapping
  pub pair : IsAreaPair area mapping x m

-- (a) a block is at the register of one of the sixteen FMMUs, and x and m are a pair of its bytes
pub record IsBlockPair (block : LineBlock) (x m : ℕ) : Type 0 where
  pub from : FMMU_BLOCKS ≤ block.block.register
  pub below : block.block.register < FMMU_BLOCKS + FMMU_BLOCK_BYTES * FMMUS
  pub pair : IsPair block.block.bytes x m

-- (d) x and m are a pair of a block of the line for the slave with a station address
pub record LineBlockPairs (line : List Member) (station x m : ℕ) : Type 0 where
  pub block : LineBlock
  pub in_line : Contains (line_blocks line) block
  pub station_is : block.station ≡ station
  pub pair : IsBlockPair block x m
