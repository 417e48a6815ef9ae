-- The limits of every project, as relations: each value in its range, each name once, each area of a slave in memory of its
-- own.
use Rattle.std.specs.Prelude.{◌≡◌, ◌≢◌, ℕ, ◌+◌, ◌<◌, ◌≤◌, false, All, AllPairs, List, [], ◌∷◌, length}
use Rattle.hc_records.specs.declared.limits.TheConstants.{LAST_SYNC_MANAGER, MEMORY_START, MEMORY_END, MOST_AREA_BITS, MOST_AREAS, MOST_ENTRIES, MOST_ENTRY_BITS, MOST_GROUPS, MOST_PDOS, MOST_SLAVES, TASKS}
use Rattle.hc_records.specs.declared.records.Pdo.{Pdo}
use Rattle.hc_records.specs.declared.records.Area.{Area}
use Rattle.hc_records.specs.declared.records.Slave.{Slave}
use Rattle.hc_records.specs.declared.records.Group.{Group}
use Rattle.hc_records.specs.Area.{Entry, has_unknown, width}
use Rattle.hc_records.specs.Project.{reach, slave_names, slaves_of}

-- an entry has 1 to 64 bits
pub record IsEntryWidth (bits : ℕ) : Type 0 where
  pub some : 1 ≤ bits
  pub most : bits ≤ MOST_ENTRY_BITS

-- an entry is within its limits: it has 1 to 64 bits
abbrev pub IsEntryInside : Entry → Type 0
IsEntryInside entry = IsEntryWidth entry.1

-- a PDO is within its limits: at most 64 entries, each within its own
pub record IsPdoInside (pdo : Pdo) : Type 0 where
  pub few : length pdo.entries ≤ MOST_ENTRIES
  pub entries : All IsEntryInside pdo.entries

-- an area is within its limits: each number in its range, PDOs that it offers once each, assigned ones among these and once each, at most 11,888 bits, and a reach that ends in process memory
pub record IsAreaInside (area : Area) : Type 0 where
  pub manager : area.sm ≤ LAST_SYNC_MANAGER
  pub start : MEMORY_START ≤ area.phys
  pub begins : area.phys < MEMORY_END
  pub end : area.phys + reach area ≤ MEMORY_END
  pub task : area.task < TASKS
  pub few_offered : length area.offered ≤ MOST_PDOS
  pub few_assigned : length area.assigned ≤ MOST_PDOS
  pub pdos : All IsPdoInside area.offered
  pub indexes : AllPairs (λ a b. a.index ≢ b.index) area.offered
  pub known : has_unknown area.assigned area ≡ false
  pub once : AllPairs (λ a b. a ≢ b) area.assigned
  pub narrow : width area ≤ MOST_AREA_BITS

-- a byte of its slave's memory that an area may take
pub record Reaches (area : Area) (byte : ℕ) : Type 0 where
  pub from : area.phys ≤ byte
  pub below : byte < area.phys + reach area

-- no byte is one that both areas may take
abbrev pub KeepApart : Area → Area → Type 0
KeepApart a b = (byte : ℕ) → Reaches a byte → ¬ (Reaches b byte)

-- a slave is within its limits: a station address other than 0, at most 8 areas, each within its own limits, with sync managers
-- and memory of their own
pub record IsSlaveInside (slave : Slave) : Type 0 where
  pub station : 1 ≤ slave.station
  pub few : length slave.areas ≤ MOST_AREAS
  pub areas : All IsAreaInside slave.areas
  pub managers : AllPairs (λ a b. a.sm ≢ b.sm) slave.areas
  pub apart : AllPairs KeepApart slave.areas

-- a group that can be connected and disconnected has an alias from 1 on, and at least one slave
pub record ComesAndGoes (group : Group) : Type 0 where
  pub alias : 1 ≤ group.alias
  pub slaves : 1 ≤ length group.slaves

-- the first group is the mandatory one, with alias 0, and each other one comes and goes
abbrev pub BeginsMandatory : List Group → Type 0
BeginsMandatory [] = ⊥
BeginsMandatory (mandatory ∷ groups) = (mandatory.alias ≡ 0) × All ComesAndGoes groups

-- a project's groups are within their limits: the mandatory one first, at most 512 groups and 2,048 slaves, and each alias, station address and variable once
pub record IsProjectInside (groups : List Group) : Type 0 where
  pub mandatory : BeginsMandatory groups
  pub few_groups : length groups ≤ MOST_GROUPS
  pub few_slaves : length (slaves_of groups) ≤ MOST_SLAVES
  pub slaves : All IsSlaveInside (slaves_of groups)
  pub aliases : AllPairs (λ a b. a.alias ≢ b.alias) groups
  pub stations : AllPairs (λ a b. a.station ≢ b.station) (slaves_of groups)
  pub variables : AllPairs (λ a b. a ≢ b) (slave_names (slaves_of groups))
