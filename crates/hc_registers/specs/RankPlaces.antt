-- The places of a line's blocks by rank: sixteen for each declared slave, one for each block number; those of an absent slave are empty.
use Rattle.std.specs.Prelude.{ℕ, ◌+◌, ◌-◌, ◌*◌, Bool, if◌then◌else◌, List, [], ◌∷◌, ◌++◌, length, map, slice_get, Option}
use Rattle.std.specs.List.{flat_map, range_with_len}
use Rattle.hc_records.specs.declared.records.Declared.{Declared}
use Rattle.hc_records.specs.Line.{Member, State, groups_of, line, members_from}
use Rattle.hc_records.specs.Project.{slaves_of}
use Rattle.hc_registers.specs.Blocks.{LineBlock, member_blocks}

-- the place of the block with a number of the slave with a rank, counted from 1
abbrev pub place : ℕ → ℕ → ℕ
place rank number = 16 * (rank - 1) + number

-- the numbers of a slave's places: a slave has at most 16 blocks, two for each area
unfoldable pub numbers : List ℕ
numbers = range_with_len 0 16

-- the content of a slave's places in a line: its blocks if it is present
abbrev pub slave_places : List Member → Bool → Member → List (Option LineBlock)
slave_places line present member = map (slice_get (if present then member_blocks line member else [])) numbers

-- the content of the places of declared groups' slaves in a line, from a rank on
abbrev pub places_from : List Member → ℕ → List Declared → List (Option LineBlock)
places_from line rank [] = []
places_from line rank (declared ∷ rest) =
    flat_map (slave_places line declared.present) (members_from rank declared.group.slaves)
    ++ places_from line (rank + length declared.group.slaves) rest

-- the blocks of the line of a state, each at its place
abbrev pub places : State → List (Option LineBlock)
places state = places_from (line state) 1 state.groups

-- the station addresses of all declared slaves, present or not, by rank
abbrev pub stations : State → List ℕ
stations state = map (λ slave. slave.station) (slaves_of (groups_of state.groups))
