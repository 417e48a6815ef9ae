-- Laws of a line's FMMUs, from the definitions of packing, blocks and slave machine. Each is the contract of a function of `programmed_laws`.
use Rattle.std.specs.Prelude.{◌≡◌, ℕ, ◌<◌, ◌↔◌, ◌⊎◌, AllPairs, Contains, List, None, Some, slice_get}
use Rattle.hc_records.specs.declared.records.Area.{Area}
use Rattle.hc_records.specs.declared.records.Dir.TheVariants.{Out, In}
use Rattle.hc_records.specs.Area.{width}
use Rattle.hc_records.specs.Edits.{over_limit_task}
use Rattle.hc_records.specs.Image.{task_places}
use Rattle.hc_records.specs.Keys.{same_dir}
use Rattle.hc_records.specs.Line.{Member, State, groups_of, line}
use Rattle.hc_records.specs.Packing.{Placed}
use Rattle.hc_records.specs.Project.{lowest_fault}
use Rattle.hc_registers.specs.declared.fmmu.Mapping.{Mapping}
use Rattle.hc_registers.specs.Blocks.{IsMappable, LineBlock, fmmu_bytes, line_blocks, mapped_bytes, mapping_at, mapping_of}
use Rattle.hc_machine.specs.Fmmus.{is_read, is_write_fmmu}
use Rattle.hc_machine.specs.Laws.{IsPair}
use Rattle.hc_exchange.specs.Pairs.{LinePairs, LineBlockPairs, IsAreaPair, IsBlockPair, LiesInMemory, member_area_key}

-- the pairs of the block of an area that is mapped are the area's, and no others
abbrev pub BlocksPairTheirAreas : Type 0
BlocksPairTheirAreas =
    (area : Area) (mapping : Mapping) (x m : ℕ) → LiesInMemory area → IsMappable area mapping
    → IsPair (mapped_bytes area mapping) x m ↔ IsAreaPair area mapping x m

-- the block of an area that is not mapped has no pair
abbrev pub UnmappedAreasPairNothing : Type 0
UnmappedAreasPairNothing = (area : Area) (x m : ℕ) → ¬ IsPair (fmmu_bytes area None) x m

-- the master reads through the blocks of input areas alone, and writes through the blocks of output areas
-- alone
abbrev pub BlocksGoOneWay : Type 0
BlocksGoOneWay =
    (area : Area) (mapping : Mapping)
    → (is_read (mapped_bytes area mapping) ≡ same_dir area.dir In) × (is_write_fmmu (mapped_bytes area mapping) ≡ same_dir area.dir Out)

-- the pairs of a block are one to one
abbrev pub PairsAreOneToOne : Type 0
PairsAreOneToOne =
    (block : List ℕ)
    → ((x m n : ℕ) → IsPair block x m → IsPair block x n → m ≡ n) × ((x y m : ℕ) → IsPair block x m → IsPair block y m → x ≡ y)

-- a line that can be configured: the groups are a project's, and no task of the line has more than 16 datagrams
pub record IsConfigurable (state : State) : Type 0 where
  pub project : lowest_fault (groups_of state.groups) ≡ None
  pub uncrowded : over_limit_task (line state) ≡ None

-- an area is in its task's list by its key and its width, and is mapped at its place there
pub record IsMappedInPlace (line : List Member) (member : Member) (index : ℕ) (area : Area) : Type 0 where
  pub placed : Placed
  pub in_task : Contains (task_places area.task line) placed
  pub key : placed.key ≡ member_area_key member index area
  pub bits : placed.bits ≡ width area
  pub mapped : mapping_of line area.task (member_area_key member index area) ≡ Some (mapping_at area.task placed)

-- each area of the line that has a bit is mapped in its place, and one of 0 bits is not
abbrev pub AreasWithBitsAreMapped : Type 0
AreasWithBitsAreMapped =
    (state : State) (member : Member) (index : ℕ) (area : Area) → IsConfigurable state → Contains (line state) member → slice_get member.slave.areas index ≡ Some area
    → ((0 < width area) × IsMappedInPlace (line state) member index area)
    ⊎ ((width area ≡ 0) × (mapping_of (line state) area.task (member_area_key member index area) ≡ None))

-- slave by slave, the pairs of the line's blocks are its areas'
abbrev pub LinesPairTheirAreas : Type 0
LinesPairTheirAreas = (state : State) (station x m : ℕ) → IsConfigurable state → LineBlockPairs (line state) station x m ↔ LinePairs (line state) station x m

-- two blocks have no logical bit in common
abbrev pub ShareNoLogicalBit : LineBlock → LineBlock → Type 0
ShareNoLogicalBit a b = (x m n : ℕ) → IsBlockPair a x m → ¬ (IsBlockPair b x n)

-- no two blocks of the line have a logical bit in common
abbrev pub NoLogicalBitTwice : Type 0
NoLogicalBitTwice = (state : State) → IsConfigurable state → AllPairs ShareNoLogicalBit (line_blocks (line state))

-- two blocks of one slave have no memory bit in common
abbrev pub ShareNoMemoryBit : LineBlock → LineBlock → Type 0
ShareNoMemoryBit a b = a.station ≡ b.station → (x y m : ℕ) → IsBlockPair a x m → ¬ (IsBlockPair b y m)

-- no two blocks of one slave of the line have a memory bit in common
abbrev pub NoMemoryBitTwice : Type 0
NoMemoryBitTwice = (state : State) → IsConfigurable state → AllPairs ShareNoMemoryBit (line_blocks (line state))
