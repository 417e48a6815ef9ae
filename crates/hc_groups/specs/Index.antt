-- The index of a project's declared groups, by which a group, a slave or a block of the line is found without a walk.
use Rattle.std.specs.Prelude.{◌≡◌, ◌≢◌, ℕ, zero, suc, ◌+◌, ◌-◌, ◌*◌, ◌<◌, nat_lt, true, if◌then◌else◌, All, Contains, List, [], ◌∷◌, ◌++◌, get_or, length, map, slice_get, sum_by, take, Option, Some, None, option_and_then, MatchOption}
use Rattle.std.specs.List.{enumerate_from}
use Rattle.std.specs.List.Sorted.{IsNonDecreasing, IsPermutation}
use Rattle.hc_records.specs.declared.records.Declared.{Declared}
use Rattle.hc_records.specs.declared.records.Slave.{Slave}
use Rattle.hc_records.specs.Line.{Member, groups_of, line_from, present_slaves}
use Rattle.hc_records.specs.Project.{lowest_fault, slave_names, slaves_of}
use Rattle.hc_groups.specs.declared.addresses.Address.{Address}
use Rattle.hc_groups.specs.declared.aliases.Alias.{Alias}

-- the aliases of all declared groups, present or not, each with the group's number from 0, in declared order

-- the `Alias` of a declared group with a number: the group's configured station alias, and the number
abbrev pub alias_of : ℕ × Declared → Alias
alias_of numbered = record { alias = numbered.1.group.alias; group = numbered.0 }

-- the aliases of declared groups, each with its group's number from 0
abbrev pub aliases : List Declared → List Alias
aliases groups = map alias_of (enumerate_from 0 groups)

-- the groups, as if each were present
abbrev pub all_present : List Declared → List Declared
all_present groups = map (λ (declared : Declared). record declared { present = true }) groups

-- the station address of a slave with its rank (`Address`)
abbrev pub address_of : Member → Address
address_of member = record { station = member.slave.station; rank = member.rank }

-- the station addresses of all declared slaves, present or not, in declared order
abbrev pub addresses : List Declared → List Address
addresses groups = map address_of (line_from 1 (all_present groups))

-- the rank of the declared slave with a station address among these; 0 if none has it
abbrev pub IsRankOf : List Address → ℕ → ℕ → Type 0
IsRankOf all station zero = All (λ (address : Address). address.station ≢ station) all
IsRankOf all station (suc rank) = Contains all (record { station = station; rank = suc rank })

-- the ranks by station addresses: none has an address past the last
abbrev pub AreRanks : List Address → List ℕ → Type 0
AreRanks all ranks = (station : ℕ) → IsRankOf all station (get_or ranks station 0)

-- the rank of the slave with a station address among these; none if no slave has it
abbrev pub FindsRank : List Address → ℕ → Option ℕ → Type 0
FindsRank all station found =
    MatchOption found (All (λ address. address.station ≢ station) all) (λ rank. Contains all (record { station = station; rank = rank }))

-- the number of the group of each declared slave, in declared order; the first group has this number
abbrev pub owners_from : ℕ → List Declared → List ℕ
owners_from group [] = []
owners_from group (declared ∷ groups) = map (λ (slave : Slave). group) declared.group.slaves ++ owners_from (group + 1) groups

-- the variables that areas of declared slaves offer, present or not, assigned or not, in declared order
abbrev pub variables : List Declared → List ℕ
variables groups = slave_names (slaves_of (groups_of groups))

-- the number of register blocks of slaves: two for each area

-- the blocks of one slave
abbrev pub slave_block_count : Slave → ℕ
slave_block_count slave = 2 * length slave.areas

-- the blocks of slaves, all together
abbrev pub block_sum : List Slave → ℕ
block_sum slaves = sum_by slave_block_count slaves

-- the blocks of a slave of the line
abbrev pub own_blocks : Member → ℕ
own_blocks member = slave_block_count member.slave

-- the slave at a place in the group with a number
abbrev pub slave_in : List Declared → ℕ → ℕ → Option Slave
slave_in groups group place = option_and_then (λ (declared : Declared). slice_get declared.group.slaves place) (slice_get groups group)

-- prefix sums of a list: the count before each element, each of which has a weight, and at the end the count of all

-- the prefix sums after this many
abbrev pub sums_from : {X : Type 0} → (X → ℕ) → ℕ → List X → List ℕ
sums_from count front [] = front ∷ []
sums_from count front (x ∷ xs) = front ∷ sums_from count (front + count x) xs

-- sums that are searched: they begin with 0 and never fall
pub record AreRisingSums (sums : List ℕ) : Type 0 where
  pub first : slice_get sums 0 ≡ Some 0
  pub rising : IsNonDecreasing sums

-- a number falls into the element with an index, at an offset: it is not below the sum there, and below the next one
pub record IsSumPlace (sums : List ℕ) (n index offset : ℕ) : Type 0 where
  pub front : ℕ
  pub at : slice_get sums index ≡ Some front
  pub sum : front + offset ≡ n
  pub next : ℕ
  pub after_it : slice_get sums (index + 1) ≡ Some next
  pub below : n < next

-- the number of slaves that a group declares
abbrev pub declared_count : Declared → ℕ
declared_count declared = length declared.group.slaves

-- the number of a group's slaves in the line
abbrev pub present_count : Declared → ℕ
present_count declared = length (present_slaves declared)

-- the number of blocks of a group's slaves in the line
abbrev pub own_sum : Declared → ℕ
own_sum declared = block_sum (present_slaves declared)

-- the station addresses of slaves
abbrev pub stations : List Slave → List ℕ
stations slaves = map (λ (slave : Slave). slave.station) slaves

-- the station addresses of the slaves of the line, in line order
abbrev pub line_stations : List Declared → List ℕ
line_stations [] = []
line_stations (declared ∷ groups) = stations (present_slaves declared) ++ line_stations groups

-- a list begins with the station addresses of the line, and is as long as slaves are declared
pub record BeginsWithLine (groups : List Declared) (list : List ℕ) : Type 0 where
  pub long : length list ≡ sum_by declared_count groups
  pub front : take (length (line_stations groups)) list ≡ line_stations groups

-- the rank of the slave at a place in the group with a number
abbrev pub rank_in : List Declared → ℕ → ℕ → ℕ
rank_in groups group place = 1 + sum_by declared_count (take group groups) + place

-- the sums of the blocks of a declared group's slaves
abbrev pub block_sums : Declared → List ℕ
block_sums declared = sums_from slave_block_count 0 declared.group.slaves

-- the fields of an index: the aliases with the numbers of their groups, in the order of the aliases; at each station address
-- the rank of the declared slave that has it; the variables that declared slaves offer, in the order of their numbers; the
-- group of each declared slave; for each declared group the sums of its slaves' blocks; the sums of the groups' declared
-- slaves, of their slaves of the line, and of the blocks of those; and the station addresses of the slaves of the line by their
-- positions, as many places as slaves are declared
pub record Index : Type 0 where
  pub aliases : List Alias
  pub stations : List ℕ
  pub variables : List ℕ
  pub owners : List ℕ
  pub fronts : List (List ℕ)
  pub ranks : List ℕ
  pub slaves : List ℕ
  pub blocks : List ℕ
  pub line : List ℕ

-- the index has the facts of a project's groups that no presence changes: their aliases, and the addresses, offered variables,
-- ranks and blocks of the slaves that they declare
pub record IsIndexOfDeclared (groups : List Declared) (index : Index) : Type 0 where
  pub project : lowest_fault (groups_of groups) ≡ None
  pub aliases : IsPermutation (aliases groups) index.aliases
  pub stations : AreRanks (addresses groups) index.stations
  pub variables : IsPermutation (variables groups) index.variables
  pub owners : index.owners ≡ owners_from 0 groups
  pub fronts : index.fronts ≡ map block_sums groups
  pub ranks : index.ranks ≡ sums_from declared_count 0 groups

-- it is the index of a project's groups
pub record IsIndexOf (groups : List Declared) (index : Index) : Type 0 where
  pub declared : IsIndexOfDeclared groups index
  pub slaves : index.slaves ≡ sums_from present_count 0 groups
  pub blocks : index.blocks ≡ sums_from own_sum 0 groups
  pub line : BeginsWithLine groups index.line

-- the slave of a line that has the block with a number, from 0, with the block's number in the slave's own order
abbrev pub owned_by : List Member → ℕ → Option (Member × ℕ)
owned_by [] n = None
owned_by (member ∷ members) n =
    if nat_lt n (own_blocks member) then Some (member, n) else owned_by members (n - own_blocks member)

-- the declared slave with a rank, present or not: its group has this number, and it has this index in it
pub record IsDeclaredAt (groups : List Declared) (rank group place : ℕ) : Type 0 where
  pub declared : Declared
  pub at : slice_get groups group ≡ Some declared
  pub inside : place < length declared.group.slaves
  pub ranked : rank ≡ rank_in groups group place

-- the slave with a rank is in the line: its group, with this number, is present, and it has this index in it
pub record IsMember (groups : List Declared) (rank group place : ℕ) : Type 0 where
  pub declared : Declared
  pub at : slice_get groups group ≡ Some declared
  pub present : declared.present ≡ true
  pub inside : place < length declared.group.slaves
  pub ranked : rank ≡ rank_in groups group place
