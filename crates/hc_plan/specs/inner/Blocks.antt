-- The blocks of an area by its place, and of a slave by the places that a layout has for its areas.
use Rattle.std.specs.Prelude.{◌≡◌, ℕ, ◌<◌, ◌≤◌, ◌%◌, ◌==◌, if◌then◌else◌, List, [], ◌∷◌, length, option_map, slice_get, Option, Some, None}
use Rattle.std.specs.Option.{ForSome}
use Rattle.std.specs.List.{enumerate_from, flat_map}
use Rattle.hc_records.specs.declared.limits.TheConstants.{LAST_SYNC_MANAGER, MOST_AREA_BITS, MOST_AREAS, TASKS}
use Rattle.hc_records.specs.declared.records.Area.{Area}
use Rattle.hc_records.specs.declared.records.Declared.{Declared}
use Rattle.hc_records.specs.Area.{width}
use Rattle.hc_records.specs.Line.{Member, groups_of, line_from}
use Rattle.hc_records.specs.Packing.{Placed}
use Rattle.hc_records.specs.Edits.{over_limit_task}
use Rattle.hc_records.specs.Project.{lowest_fault}
use Rattle.hc_registers.specs.declared.fmmu.Mapping.{Mapping}
use Rattle.hc_registers.specs.Blocks.{RegisterBlock, fmmu_block, mapping_at, sync_manager_block}
use Rattle.hc_places.specs.Layout.{layout_of, placed_in}
use Rattle.hc_changes.specs.Moved.{placed_bits}

-- an area whose blocks can be written, at an index of its slave's record and with a place, which has its bits
pub record IsWritable (index : ℕ) (area : Area) (place : Option Placed) : Type 0 where
  pub early : index < MOST_AREAS
  pub manager : area.sm ≤ LAST_SYNC_MANAGER
  pub task : area.task < TASKS
  pub narrow : width area ≤ MOST_AREA_BITS
  pub bits : placed_bits place ≡ width area
  pub some : ForSome place (λ placed. 0 < placed.bits)

-- the mapping of an area, by its place
abbrev pub mapping_by : Area → Option Placed → Option Mapping
mapping_by area place = option_map (mapping_at area.task) place

-- the sync manager block and the FMMU block of the area at an index, by its place
abbrev pub two_blocks : ℕ → Area → Option Placed → RegisterBlock × RegisterBlock
two_blocks index area place = (sync_manager_block area, fmmu_block index area (mapping_by area place))

-- the mapping of the area at an index of a slave with a rank, by a layout
abbrev pub mapping_in : List (List Placed) → ℕ → ℕ → Area → Option Mapping
mapping_in layout rank index area = mapping_by area (placed_in layout area.task (record { dir = area.dir; rank = rank; area = index }))

-- the FMMU block of an area, which comes with its index, of a slave with a rank, by its place in a layout; 16 bytes of 0 if it
-- has none
abbrev pub fmmu_block_in : List (List Placed) → ℕ → ℕ × Area → RegisterBlock
fmmu_block_in layout rank e = fmmu_block e.0 e.1 (mapping_in layout rank e.0 e.1)

-- the two blocks of an area of a slave with a rank, by its place in a layout: its sync manager block, then its FMMU block
abbrev pub area_blocks_in : List (List Placed) → ℕ → ℕ × Area → List RegisterBlock
area_blocks_in layout rank e = sync_manager_block e.1 ∷ fmmu_block_in layout rank e ∷ []

-- one of the two blocks of an area, by its place in a layout: the sync manager block for an even number, the FMMU block for an odd one
abbrev pub area_block_in : List (List Placed) → ℕ → ℕ → ℕ × Area → RegisterBlock
area_block_in layout rank number e = if number % 2 == 0 then sync_manager_block e.1 else fmmu_block_in layout rank e

-- the blocks of a slave by the places of a layout: for each area in record order its sync manager block, then its FMMU block
abbrev pub slave_blocks_in : List (List Placed) → Member → List RegisterBlock
slave_blocks_in layout member = flat_map (area_blocks_in layout member.rank) (enumerate_from 0 member.slave.areas)

-- a layout of the line of a project's groups, in which no task is over its limit
pub record IsLayoutOf (groups : List Declared) (layout : List (List Placed)) : Type 0 where
  pub project : lowest_fault (groups_of groups) ≡ None
  pub uncrowded : over_limit_task (line_from 1 groups) ≡ None
  pub of_line : layout ≡ layout_of (line_from 1 groups)

-- a slave of at most 8 areas, whose blocks can be written with the places that a layout has for the areas
pub record IsMappedSlave (layout : List (List Placed)) (member : Member) : Type 0 where
  pub few : length member.slave.areas ≤ MOST_AREAS
  pub areas : (index : ℕ) (area : Area) → slice_get member.slave.areas index ≡ Some area
      → IsWritable index area (placed_in layout area.task (record { dir = area.dir; rank = member.rank; area = index }))
