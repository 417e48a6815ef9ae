-- The register blocks of a slave, as lists of bytes in the order of the registers (ETG.1000.4, 6.6 and 6.7).
use Rattle.std.specs.Prelude.{ℕ, ◌<◌, ◌≤◌, ◌^◌, ◌+◌, ◌-◌, ◌*◌, ◌/◌, ◌%◌, ◌==◌, ◌&&◌, not, Bool, if◌then◌else◌, List, [], ◌∷◌, ◌++◌, filter, find, length, map, replicate, Option, option_map}
use Rattle.std.specs.Option.{option_map_or}
use Rattle.std.specs.List.{enumerate_from, flat_map, list_any}
use Rattle.std.specs.Int.{to_le_bytes, w16, w32}
use Rattle.std.specs.Str.{bytes_eq}
use Rattle.hc_records.specs.declared.limits.TheConstants.{MOST_AREA_BITS, MOST_DATAGRAM_BYTES}
use Rattle.hc_records.specs.declared.records.Dir.{Dir}
use Rattle.hc_records.specs.declared.records.Dir.TheVariants.{Out, In}
use Rattle.hc_records.specs.declared.records.Area.{Area}
use Rattle.hc_records.specs.declared.keys.Key.{Key}
use Rattle.hc_records.specs.Keys.{same_key}
use Rattle.hc_records.specs.Area.{width}
use Rattle.hc_records.specs.Line.{Member}
use Rattle.hc_records.specs.Packing.{Placed}
use Rattle.hc_records.specs.Image.{logical_address, task_places}
use Rattle.hc_registers.specs.declared.fmmu.Mapping.{Mapping}
use Rattle.hc_registers.specs.declared.registers.TheConstants.{FMMU_BLOCKS, FMMU_BLOCK_BYTES, SYNC_MANAGER_BLOCKS, SYNC_MANAGER_BLOCK_BYTES}

-- the bytes that hold so many bits
abbrev pub byte_count : ℕ → ℕ
byte_count bits = (bits + 7) / 8

-- the control byte of a direction (this project's profile)
abbrev pub control_of : Dir → ℕ
control_of Out = 0x64
control_of In = 0x20

-- an area of 0 bits has its sync manager inactive
abbrev pub activation : ℕ → ℕ
activation bits = if bits == 0 then 0 else 1

-- start and length of the memory, control, status, activation and PDI control of an area's sync manager
abbrev pub sync_manager_bytes : Area → List ℕ
sync_manager_bytes area =
    to_le_bytes w16 area.phys
    ++ to_le_bytes w16 (byte_count (width area))
    ++ control_of area.dir ∷ 0 ∷ activation (width area) ∷ 0 ∷ []

-- the type of an FMMU: bit 0 lets the master read, bit 1 write
abbrev pub type_of : Dir → ℕ
type_of Out = 2
type_of In = 1

-- the last bit of an area in its datagram
abbrev pub last_bit : ℕ → ℕ → ℕ
last_bit bit bits = bit + bits - 1

-- an area of at least one bit ends within the longest datagram, and all addresses of a datagram of this length have 32 bits
pub record IsMappable (area : Area) (mapping : Mapping) : Type 0 where
  pub some : 0 < width area
  pub inside : mapping.bit + width area ≤ MOST_AREA_BITS
  pub room : mapping.address + MOST_DATAGRAM_BYTES ≤ 2 ^ 32

-- the bytes of the datagram that an area touches, from the first to the last
abbrev pub touched_bytes : ℕ → ℕ → ℕ
touched_bytes bit bits = last_bit bit bits / 8 - bit / 8 + 1

-- logical start address and length, logical start and stop bit, physical start address and bit, type and activation of the FMMU of an area that is mapped
abbrev pub mapped_bytes : Area → Mapping → List ℕ
mapped_bytes area mapping =
    to_le_bytes w32 (mapping.address + mapping.bit / 8)
    ++ to_le_bytes w16 (touched_bytes mapping.bit (width area))
    ++ mapping.bit % 8 ∷ last_bit mapping.bit (width area) % 8 ∷ []
    ++ to_le_bytes w16 area.phys
    ++ 0 ∷ type_of area.dir ∷ 1 ∷ 0 ∷ 0 ∷ 0 ∷ []

-- an area that is not mapped, which has 0 bits, has an FMMU block of zeros
abbrev pub fmmu_bytes : Area → Option Mapping → List ℕ
fmmu_bytes area mapping = option_map_or (mapped_bytes area) mapping (replicate 16 0)

-- the mapping of an area, by its place
abbrev pub mapping_at : ℕ → Placed → Mapping
mapping_at task placed = record { address = logical_address task placed.datagram; bit = placed.bit }

-- the mapping of an area of the line; none if it has 0 bits
abbrev pub mapping_of : List Member → ℕ → Key → Option Mapping
mapping_of line task key =
    option_map (mapping_at task) (find (λ placed. same_key placed.key key) (task_places task line))

-- bytes at a register
pub record RegisterBlock : Type 0 where
  pub register : ℕ
  pub bytes : List ℕ

-- the sync manager block of an area, with its register: 0x0800 + 8 × the number of the sync manager
abbrev pub sync_manager_block : Area → RegisterBlock
sync_manager_block area =
    record { register = SYNC_MANAGER_BLOCKS + SYNC_MANAGER_BLOCK_BYTES * area.sm; bytes = sync_manager_bytes area }

-- the FMMU block of the area at an index of its slave's record, with its register: 0x0600 + 16 × the index, counted from 0;
-- zeros if it is not mapped
abbrev pub fmmu_block : ℕ → Area → Option Mapping → RegisterBlock
fmmu_block index area mapping =
    record { register = FMMU_BLOCKS + FMMU_BLOCK_BYTES * index; bytes = fmmu_bytes area mapping }

-- the blocks of an area of a slave with a rank
abbrev pub area_blocks : List Member → ℕ → ℕ × Area → List RegisterBlock
area_blocks line rank e =
    sync_manager_block e.1
    ∷ fmmu_block e.0 e.1 (mapping_of line e.1.task (record { dir = e.1.dir; rank = rank; area = e.0 }))
    ∷ []

-- the blocks of a slave: for each area in record order its sync manager block, then its FMMU block
abbrev pub slave_blocks : List Member → Member → List RegisterBlock
slave_blocks line member = flat_map (area_blocks line member.rank) (enumerate_from 0 member.slave.areas)

-- a block of the line: its slave's station address, its number in the slave's order, and the block
pub record LineBlock : Type 0 where
  pub station : ℕ
  pub number : ℕ
  pub block : RegisterBlock

-- a slave's blocks from a number on, as blocks of the line
abbrev pub numbered : ℕ → ℕ → List RegisterBlock → List LineBlock
numbered station first blocks = map (λ e. record { station = station; number = e.0; block = e.1 }) (enumerate_from first blocks)

-- the register blocks of a slave of the line, in its order, each with its station address and its number
abbrev pub member_blocks : List Member → Member → List LineBlock
member_blocks line member = numbered member.slave.station 0 (slave_blocks line member)

-- the blocks of a line, in line order and block order
abbrev pub line_blocks : List Member → List LineBlock
line_blocks line = flat_map (member_blocks line) line

-- two blocks have the same bytes at the same register
abbrev pub same_bytes : RegisterBlock → RegisterBlock → Bool
same_bytes a b = (a.register == b.register) && bytes_eq a.bytes b.bytes

-- two blocks have the same bytes at the same register of the same slave
abbrev pub same_block : LineBlock → LineBlock → Bool
same_block a b = (a.station == b.station) && same_bytes a.block b.block

-- the blocks of the new line that were not blocks of the old one
abbrev pub moved_blocks : List Member → List Member → List LineBlock
moved_blocks old new = filter (λ block. not (list_any (same_block block) (line_blocks old))) (line_blocks new)

-- the number of blocks that an edit moves: the blocks of the new line that were not blocks of the old one
abbrev pub moved : List Member → List Member → ℕ
moved old new = length (moved_blocks old new)
