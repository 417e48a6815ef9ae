-- The areas of a new line that may be configured in another way than in the old one: those of changed slaves, and those up to
-- which their datagrams were not kept.
use Rattle.std.specs.Prelude.{◌≡◌, ℕ, ◌*◌, ◌==◌, ◌||◌, not, Bool, false, List, filter, find, map, Option, option_map}
use Rattle.std.specs.Option.{option_map_or}
use Rattle.std.specs.List.{enumerate_from, flat_map, list_any}
use Rattle.hc_records.specs.declared.records.Area.{Area}
use Rattle.hc_records.specs.declared.records.Slave.{Slave}
use Rattle.hc_records.specs.declared.keys.Key.{Key}
use Rattle.hc_records.specs.Keys.{same_key}
use Rattle.hc_records.specs.Line.{Member}
use Rattle.hc_records.specs.TaskList.{task_list}
use Rattle.hc_records.specs.Packing.{Placed}
use Rattle.hc_records.specs.Image.{task_places}
use Rattle.hc_cuts.specs.Keeping.{is_unchanged_up_to}
use Rattle.hc_registers.specs.Blocks.{LineBlock, area_blocks, line_blocks, numbered, same_block}

-- the slave of a line with a rank, if it is present
abbrev pub slave_of : List Member → ℕ → Option Slave
slave_of line rank = option_map (λ member. member.slave) (find (λ member. member.rank == rank) line)

-- each slave whose rank is not among the changed ones is in both lines with the same record, or in neither
abbrev pub DifferAt : (ℕ → Bool) → List Member → List Member → Type 0
DifferAt changed old new = (rank : ℕ) → changed rank ≡ false → slave_of old rank ≡ slave_of new rank

-- an area of a line: its slave, its index in the slave's record, and its own record
pub record LineArea : Type 0 where
  pub member : Member
  pub index : ℕ
  pub area : Area

-- the areas of a slave of a line, each as a `LineArea` with the slave and its index from 0, in record order
abbrev pub areas_of : Member → List LineArea
areas_of member = map (λ e. record { member = member; index = e.0; area = e.1 }) (enumerate_from 0 member.slave.areas)

-- the areas of a line, slave by slave in record order
abbrev pub line_areas : List Member → List LineArea
line_areas line = flat_map areas_of line

-- the sorting key of an area of a line in its task: its direction, its slave's rank, its index in the slave's record
abbrev pub line_area_key : LineArea → Key
line_area_key found = record { dir = found.area.dir; rank = found.member.rank; area = found.index }

-- the place of an area; none if it has 0 bits
abbrev pub line_area_place : List Member → LineArea → Option Placed
line_area_place line found = find (λ placed. same_key placed.key (line_area_key found)) (task_places found.area.task line)

-- an area is in a datagram that was not kept up to it
abbrev pub is_recut : List Member → List Member → LineArea → Bool
is_recut old new found =
    option_map_or (λ placed. not (is_unchanged_up_to (task_list found.area.task old) (task_list found.area.task new) placed.datagram placed.key)) (line_area_place new found) false

-- an area is a candidate: its slave's rank is among the changed ones, or it is in a datagram of the new line that was not kept
-- up to it (`is_recut`)
abbrev pub is_maybe_moved : (ℕ → Bool) → List Member → List Member → LineArea → Bool
is_maybe_moved changed old new found = changed found.member.rank || is_recut old new found

-- the candidates, in line and record order
abbrev pub maybe_moved_areas : (ℕ → Bool) → List Member → List Member → List LineArea
maybe_moved_areas changed old new = filter (is_maybe_moved changed old new) (line_areas new)

-- a candidate: its slave's station address and rank, its index in the slave's record, its own record, and its place
pub record MaybeMoved : Type 0 where
  pub station : ℕ
  pub rank : ℕ
  pub index : ℕ
  pub area : Area
  pub place : Option Placed

-- the candidate for an area of a line, with its place in that line
abbrev pub maybe_moved_of : List Member → LineArea → MaybeMoved
maybe_moved_of line found = record {
  station = found.member.slave.station;
  rank = found.member.rank;
  index = found.index;
  area = found.area;
  place = line_area_place line found;
}

-- the two blocks of an area, by their numbers in the slave's order
abbrev pub line_area_blocks : List Member → LineArea → List LineBlock
line_area_blocks line found =
    numbered found.member.slave.station (2 * found.index) (area_blocks line found.member.rank (found.index, found.area))

-- the moved blocks of a candidate: those of its two blocks that were not blocks of the old line
abbrev pub moved_of : List Member → List Member → LineArea → List LineBlock
moved_of old new found = filter (λ block. not (list_any (same_block block) (line_blocks old))) (line_area_blocks new found)
