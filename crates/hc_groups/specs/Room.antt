-- A declared group that is added to an index: the memory that this needs, and the facts of the group that the index stores.
use Rattle.std.specs.Prelude.{◌≡◌, ℕ, ◌+◌, ◌<◌, ◌≤◌, All, List, [], ◌∷◌, ◌++◌, None, length, map, sum_by}
use Rattle.std.specs.List.Sorted.{IsNonDecreasing, IsPermutation}
use Rattle.hc_records.specs.declared.records.Declared.{Declared}
use Rattle.hc_records.specs.declared.records.Group.{Group}
use Rattle.hc_records.specs.Edits.{absent}
use Rattle.hc_records.specs.Line.{groups_of, members_from}
use Rattle.hc_records.specs.Project.{lowest_fault, slave_names}
use Rattle.hc_groups.specs.declared.addresses.Address.{Address}
use Rattle.hc_groups.specs.Index.{Index, IsIndexOf, address_of, slave_block_count, declared_count, sums_from, variables}
use Rattle.hc_groups.specs.declared.room.GroupRoom.{GroupRoom}
use Rattle.hc_groups.specs.declared.room.SlaveRoom.{SlaveRoom}
use Rattle.hc_groups.specs.declared.room.Entry.{Entry}

-- the index of a project's groups; with the group after them, absent, they are a project's again
pub record CanEnter (index : Index) (group : Group) : Type 0 where
  pub groups : List Declared
  pub is : IsIndexOf groups index
  pub project : lowest_fault (groups_of (groups ++ absent group ∷ [])) ≡ None

-- the capacity that each list of the index has for more elements, and the facts of the group's slaves: the station addresses
-- with their ranks, a number above all of these addresses, the variables in the order of their numbers, and the sums of their
-- blocks
pub record IndexRoom : Type 0 where
  pub aliases : ℕ
  pub stations : ℕ
  pub variables : ℕ
  pub owners : ℕ
  pub line : ℕ
  pub fronts : ℕ
  pub ranks : ℕ
  pub slaves : ℕ
  pub blocks : ℕ
  pub addresses : List Address
  pub reach : ℕ
  pub names : List ℕ
  pub sums : List ℕ

-- each list with an element for each group has the capacity for one more
pub record IsGroupRoom (index : Index) (room : GroupRoom) : Type 0 where
  pub aliases : length index.aliases + 1 ≤ room.aliases
  pub fronts : length index.fronts + 1 ≤ room.fronts
  pub ranks : length index.ranks + 1 ≤ room.ranks
  pub slaves : length index.slaves + 1 ≤ room.slaves
  pub blocks : length index.blocks + 1 ≤ room.blocks

-- there is capacity for this many slaves with their facts: the ranks up to their highest station address, their variables,
-- their groups' numbers, and a position of the line for each
pub record IsSlaveRoom (index : Index) (entry : Entry) (count : ℕ) (room : SlaveRoom) : Type 0 where
  pub stations : entry.reach ≤ room.stations
  pub variables : length index.variables + length entry.names.items ≤ room.variables
  pub owners : length index.owners + count ≤ room.owners
  pub line : length index.line + count ≤ room.line

-- there is capacity for a further group: one element in each list that has one for each group, one for each of its slaves and
-- of its variables, and the ranks up to its highest station address; and these are the facts of the group
pub record IsIndexRoomFor (groups : List Declared) (group : Group) (room : IndexRoom) : Type 0 where
  pub aliases : length groups + 1 ≤ room.aliases
  pub stations : room.reach ≤ room.stations
  pub variables : length (variables groups) + length room.names ≤ room.variables
  pub owners : sum_by declared_count groups + length group.slaves ≤ room.owners
  pub line : sum_by declared_count groups + length group.slaves ≤ room.line
  pub fronts : length groups + 1 ≤ room.fronts
  pub ranks : length groups + 2 ≤ room.ranks
  pub slaves : length groups + 2 ≤ room.slaves
  pub blocks : length groups + 2 ≤ room.blocks
  pub addresses : room.addresses ≡ map address_of (members_from (sum_by declared_count groups + 1) group.slaves)
  pub reach : All (λ address. address.station < room.reach) room.addresses
  pub names : IsPermutation (slave_names group.slaves) room.names
  pub order : IsNonDecreasing room.names
  pub sums : room.sums ≡ sums_from slave_block_count 0 group.slaves

-- the group is added after the groups of the index, in this memory
pub record IndexCanAdmit (index : Index) (group : Group) (room : IndexRoom) : Type 0 where
  pub groups : List Declared
  pub is : IsIndexOf groups index
  pub project : lowest_fault (groups_of (groups ++ absent group ∷ [])) ≡ None
  pub fits : IsIndexRoomFor groups group room
