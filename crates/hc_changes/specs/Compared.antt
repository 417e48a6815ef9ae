-- The old area of an area, and its blocks that differ: each is compared with the block that had its number.
use Rattle.std.specs.Prelude.{◌==◌, if◌then◌else◌, List, [], ◌∷◌, find, slice_get, Option, option_and_then, option_map}
use Rattle.std.specs.Option.{option_map_or}
use Rattle.hc_records.specs.Line.{Member}
use Rattle.hc_registers.specs.Blocks.{LineBlock, same_block}
use Rattle.hc_changes.specs.MaybeMovedAreas.{LineArea, line_area_blocks}

-- the area of a line at the position of another area: at its index in the slave with its slave's rank; none if the line lacks
-- that slave
abbrev pub counterpart : List Member → LineArea → Option LineArea
counterpart line found =
    option_and_then (λ member. option_map (λ area. record { member = member; index = found.index; area = area }) (slice_get member.slave.areas found.index))
    (find (λ member. member.rank == found.member.rank) line)

-- the two blocks of the area of a line at the position of another area (`counterpart`); an empty list if there is no such area
abbrev pub blocks_in : List Member → LineArea → List LineBlock
blocks_in line found = option_map_or (line_area_blocks line) (counterpart line found) []

-- the blocks of a list that differ from those in their places in another list
abbrev pub unlike : List LineBlock → List LineBlock → List LineBlock
unlike [] blocks = blocks
unlike (other ∷ others) [] = []
unlike (other ∷ others) (block ∷ blocks) = if same_block block other then unlike others blocks else block ∷ unlike others blocks

-- the blocks of an area of the new line that differ from those which the old line's slave had with their numbers
abbrev pub differing_of : List Member → List Member → LineArea → List LineBlock
differing_of old new found = unlike (blocks_in old found) (line_area_blocks new found)
