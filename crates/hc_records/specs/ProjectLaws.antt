-- Laws of the line and the areas of a project, from the project's conditions. Each is the contract of a function of `laws`.
use Rattle.std.specs.Prelude.{◌≡◌, ℕ, ◌*◌, ◌<◌, ◌≤◌, false, All, AllPairs, None, List, [], ◌∷◌, ◌++◌, map}
use Rattle.hc_records.specs.declared.limits.TheConstants.{MEMORY_END, MEMORY_START}
use Rattle.hc_records.specs.declared.records.Area.{Area}
use Rattle.hc_records.specs.declared.records.Declared.{Declared}
use Rattle.hc_records.specs.declared.records.Group.{Group}
use Rattle.hc_records.specs.declared.records.Slave.{Slave}
use Rattle.hc_records.specs.Area.{width}
use Rattle.hc_records.specs.Edits.{absent, declaring_faults}
use Rattle.hc_records.specs.Line.{IsCounted, State, groups_of, line, line_from}
use Rattle.hc_records.specs.Limits.{IsProjectInside, KeepApart, Reaches}
use Rattle.hc_records.specs.Lists.{has_repeat, lowest}
use Rattle.hc_records.specs.Project.{lowest_fault, reach, slaves_of}

-- a project keeps all limits: each value in its range, each name once, each area in memory of its own
abbrev pub ProjectsKeepTheirLimits : Type 0
ProjectsKeepTheirLimits = (groups : List Group) → lowest_fault groups ≡ None → IsProjectInside groups

-- each declared slave of a project has a rank of 16 bits
abbrev pub RanksAreCounted : Type 0
RanksAreCounted = (groups : List Declared) → lowest_fault (groups_of groups) ≡ None → IsCounted groups

-- no two slaves of the line of a project have one station address
abbrev pub StationsAreDistinct : Type 0
StationsAreDistinct =
    (state : State) → lowest_fault (groups_of state.groups) ≡ None
    → has_repeat (map (λ member. member.slave.station) (line state)) ≡ false

-- the bytes that an area may take hold the bits of its assigned PDOs
abbrev pub HoldsItsWidth : Area → Type 0
HoldsItsWidth area = width area ≤ 8 * reach area

-- `HoldsItsWidth` holds for each area of a project
abbrev pub ReachesHoldWidths : Type 0
ReachesHoldWidths =
    (groups : List Group) → lowest_fault groups ≡ None → All (λ slave. All HoldsItsWidth slave.areas) (slaves_of groups)

-- a byte of the memory that is meant for process data
pub record IsProcessByte (byte : ℕ) : Type 0 where
  pub from : MEMORY_START ≤ byte
  pub to : byte < MEMORY_END

-- the areas of a slave take bytes of this memory alone, and no two take the same byte
pub record KeepsAreasApart (slave : Slave) : Type 0 where
  pub inside : All (λ area. (byte : ℕ) → Reaches area byte → IsProcessByte byte) slave.areas
  pub apart : AllPairs KeepApart slave.areas

-- `KeepsAreasApart` holds for each slave of a project
abbrev pub ReachesShareNoByte : Type 0
ReachesShareNoByte = (groups : List Group) → lowest_fault groups ≡ None → All KeepsAreasApart (slaves_of groups)

-- a group that is declared after the groups of a project, and has none of the faults of a declared group, leaves them again a
-- project's
abbrev pub DeclaredGroupsKeepProjects : Type 0
DeclaredGroupsKeepProjects =
    (groups : List Declared) (group : Group) → lowest_fault (groups_of groups) ≡ None → lowest (declaring_faults groups group) ≡ None
    → lowest_fault (groups_of (groups ++ absent group ∷ [])) ≡ None

-- a declared group leaves the line as it was
abbrev pub DeclaredGroupsKeepTheLine : Type 0
DeclaredGroupsKeepTheLine = (groups : List Declared) (group : Group) → line_from 1 (groups ++ absent group ∷ []) ≡ line_from 1 groups
