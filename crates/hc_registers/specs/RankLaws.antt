-- Laws of the places of a line. Each law is the contract of a function of `rank_laws`.
use Rattle.std.specs.Prelude.{◌≡◌, ℕ, ◌*◌, ◌<◌, ◌++◌, List, All, length, map, replicate, slice_get, Option, Some, None}
use Rattle.std.specs.List.{flat_map}
use Rattle.std.specs.Option.{option_to_list}
use Rattle.hc_records.specs.declared.edit.Edit.TheVariants.{Declare}
use Rattle.hc_records.specs.declared.records.Group.{Group}
use Rattle.hc_records.specs.Edits.{changed}
use Rattle.hc_records.specs.Line.{Member, State, groups_of, line}
use Rattle.hc_records.specs.Project.{lowest_fault}
use Rattle.hc_registers.specs.Blocks.{LineBlock, line_blocks, member_blocks, moved_blocks}
use Rattle.hc_registers.specs.Ranked.{moved_ranked}
use Rattle.hc_registers.specs.RankPlaces.{place, places}

-- the blocks that are at places, in their order
abbrev pub standing : List (Option LineBlock) → List LineBlock
standing places = flat_map option_to_list places

-- at the places of a project's line are its blocks, in line and block order
abbrev pub PlacesHoldTheLine : Type 0
PlacesHoldTheLine = (state : State) → lowest_fault (groups_of state.groups) ≡ None → standing (places state) ≡ line_blocks (line state)

-- the place of a slave's rank and a number has the slave's block with that number; nothing if it has no such block
abbrev pub HasPlaces : State → Member → Type 0
HasPlaces state member =
    (number : ℕ) → number < 16 → slice_get (places state) (place member.rank number) ≡ Some (slice_get (member_blocks (line state) member) number)

-- `HasPlaces` holds for every slave of a line
abbrev pub MembersHavePlaces : Type 0
MembersHavePlaces = (state : State) → All (HasPlaces state) (line state)

-- the moved blocks with their ranks are the moved blocks of the two lines, in their order
abbrev pub RankedAreMoved : Type 0
RankedAreMoved = (old new : List Member) → map (λ block. block.found) (moved_ranked old new) ≡ moved_blocks old new

-- a group that is declared, absent, adds sixteen empty places for each of its slaves after those of the others, which stay as they are
abbrev pub DeclaredGroupsAddEmptyPlaces : Type 0
DeclaredGroupsAddEmptyPlaces =
    (state : State) (group : Group) → places (changed state (Declare group)) ≡ places state ++ replicate (16 * length group.slaves) None
