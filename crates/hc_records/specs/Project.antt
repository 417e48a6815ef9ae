-- The conditions of every project: each value in its range, and each name once.
use Rattle.std.specs.Prelude.{ℕ, ◌+◌, ◌-◌, ◌/◌, ◌==◌, ◌&&◌, ◌||◌, not, min, nat_lt, Bool, true, List, [], ◌∷◌, length, map, sum_by, Option}
use Rattle.std.specs.List.{filter_map, flat_map, list_any}
use Rattle.hc_records.specs.declared.limits.TheConstants.{LAST_SYNC_MANAGER, MEMORY_START, MEMORY_END, MOST_AREA_BITS, MOST_AREAS, MOST_ENTRIES, MOST_ENTRY_BITS, MOST_GROUPS, MOST_PDOS, MOST_SLAVES, TASKS}
use Rattle.hc_records.specs.declared.records.Pdo.{Pdo}
use Rattle.hc_records.specs.declared.records.Area.{Area}
use Rattle.hc_records.specs.declared.records.Slave.{Slave}
use Rattle.hc_records.specs.declared.records.Group.{Group}
use Rattle.hc_records.specs.declared.faults.ProjectFault.{ProjectFault}
use Rattle.hc_records.specs.declared.faults.ProjectFault.TheVariants.{OutOfRange, RepeatedAlias, RepeatedStation, RepeatedSyncManager, OverlappingAreas, RepeatedVariable, UnknownPdo, AreaTooBig}
use Rattle.hc_records.specs.Lists.{has_repeat, lowest, some_pair}
use Rattle.hc_records.specs.Area.{Entry, entry_bits, has_unknown, width}

-- all slaves, in declared order
abbrev pub slaves_of : List Group → List Slave
slaves_of groups = flat_map (λ group. group.slaves) groups

-- a slave of one of the groups meets the test
abbrev pub some_slave : (Slave → Bool) → List Group → Bool
some_slave test groups = list_any (λ group. list_any test group.slaves) groups

-- an area of a slave of one of the groups meets the test
abbrev pub some_area : (Area → Bool) → List Group → Bool
some_area test groups = some_slave (λ slave. list_any test slave.areas) groups

-- the bits of all entries of some PDOs
abbrev pub offered_bits : List Pdo → ℕ
offered_bits offered = sum_by (λ pdo. entry_bits pdo.entries) offered

-- the bytes of its slave's memory that an area may take: those of all its offered PDOs together, but no more than those of the widest area
abbrev pub reach : Area → ℕ
reach area = (min MOST_AREA_BITS (offered_bits area.offered) + 7) / 8

-- a value is outside its range

-- a number is below the low end of a range or above its high end; both ends are inside
abbrev pub is_outside : ℕ → ℕ → ℕ → Bool
is_outside low high n = nat_lt n low || nat_lt high n

-- an entry has 0 bits or more than 64
abbrev pub entry_outside : Entry → Bool
entry_outside entry = is_outside 1 MOST_ENTRY_BITS entry.1

-- a PDO has more than 64 entries, or an entry of 0 bits or more than 64
abbrev pub pdo_outside : Pdo → Bool
pdo_outside pdo = nat_lt MOST_ENTRIES (length pdo.entries) || list_any entry_outside pdo.entries

-- an area has a sync manager over 15, a task over 7, a first byte outside 0x1000 to 0x2FFF, a reach past 0x2FFF, over 32 offered or over 32 assigned PDOs, or an offered PDO outside its limits
abbrev pub area_outside : Area → Bool
area_outside area =
    nat_lt LAST_SYNC_MANAGER area.sm
    || is_outside MEMORY_START (MEMORY_END - 1) area.phys
    || not (nat_lt area.task TASKS)
    || nat_lt MOST_PDOS (length area.assigned)
    || nat_lt MOST_PDOS (length area.offered)
    || list_any pdo_outside area.offered
    || nat_lt MEMORY_END (area.phys + reach area)

-- a slave's station address is 0, or it has more than 8 areas or an area that is outside its limits
abbrev pub slave_outside : Slave → Bool
slave_outside slave =
    (slave.station == 0) || nat_lt MOST_AREAS (length slave.areas) || list_any area_outside slave.areas

-- a group that cannot be connected and disconnected: its alias is 0, or it has no slave
abbrev pub is_bare : Group → Bool
is_bare group = (group.alias == 0) || (length group.slaves == 0)

-- the groups do not begin with the mandatory one, which has alias 0, or a later one is bare
abbrev pub is_misplaced : List Group → Bool
is_misplaced [] = true
is_misplaced (group ∷ groups) = not (group.alias == 0) || list_any is_bare groups

-- a project has groups that are misplaced or too many, too many slaves, or a slave that is outside its limits
abbrev pub has_outside : List Group → Bool
has_outside groups =
    is_misplaced groups
    || nat_lt MOST_GROUPS (length groups)
    || nat_lt MOST_SLAVES (length (slaves_of groups))
    || some_slave slave_outside groups

-- a name is twice

-- two groups have one alias
abbrev pub has_repeated_alias : List Group → Bool
has_repeated_alias groups = has_repeat (map (λ group. group.alias) groups)

-- two slaves, of whatever groups, have one station address
abbrev pub has_repeated_station : List Group → Bool
has_repeated_station groups = has_repeat (map (λ slave. slave.station) (slaves_of groups))

-- two areas have the same sync manager number
abbrev pub same_sync_manager : Area → Area → Bool
same_sync_manager a b = b.sm == a.sm

-- two areas of a slave have one sync manager
abbrev pub repeats_sync_manager : Slave → Bool
repeats_sync_manager slave = some_pair same_sync_manager slave.areas

-- the reaches of two areas have a byte in common; a reach of no bytes has none
abbrev pub overlap : Area → Area → Bool
overlap a b =
    nat_lt 0 (reach a) && nat_lt 0 (reach b) && nat_lt a.phys (b.phys + reach b) && nat_lt b.phys (a.phys + reach a)

-- the reaches of two areas of a slave have a byte in common
abbrev pub has_overlap : Slave → Bool
has_overlap slave = some_pair overlap slave.areas

-- the variables of entries, in order; a gap has none
abbrev pub entry_names : List Entry → List ℕ
entry_names entries = filter_map (λ entry. entry.0) entries

-- the variables of the entries of PDOs, in order
abbrev pub pdo_names : List Pdo → List ℕ
pdo_names pdos = flat_map (λ pdo. entry_names pdo.entries) pdos

-- the variables that areas offer, assigned or not, in order
abbrev pub area_names : List Area → List ℕ
area_names areas = flat_map (λ area. pdo_names area.offered) areas

-- the variables that the areas of slaves offer, assigned or not, in order
abbrev pub slave_names : List Slave → List ℕ
slave_names slaves = flat_map (λ slave. area_names slave.areas) slaves

-- two entries that areas of a project offer have one variable number
abbrev pub has_repeated_variable : List Group → Bool
has_repeated_variable groups = has_repeat (slave_names (slaves_of groups))

-- two PDOs have one index
abbrev pub same_index : Pdo → Pdo → Bool
same_index a b = b.index == a.index

-- an assigned PDO of an area is not offered or is assigned twice, or two offered PDOs have one index
abbrev pub has_unknown_pdo : Area → Bool
has_unknown_pdo area =
    has_unknown area.assigned area || has_repeat area.assigned || some_pair same_index area.offered

-- an assigned width is over a datagram's
abbrev pub is_wide : Area → Bool
is_wide area = nat_lt MOST_AREA_BITS (width area)

-- the faults of a project with their conditions, the lowest first
abbrev pub project_faults : List Group → List (Bool × ProjectFault)
project_faults groups =
    (has_outside groups, OutOfRange)
    ∷ (has_repeated_alias groups, RepeatedAlias)
    ∷ (has_repeated_station groups, RepeatedStation)
    ∷ (some_slave repeats_sync_manager groups, RepeatedSyncManager)
    ∷ (some_slave has_overlap groups, OverlappingAreas)
    ∷ (has_repeated_variable groups, RepeatedVariable)
    ∷ (some_area has_unknown_pdo groups, UnknownPdo)
    ∷ (some_area is_wide groups, AreaTooBig)
    ∷ []

-- the lowest fault whose condition holds; a project has none
abbrev pub lowest_fault : List Group → Option ProjectFault
lowest_fault groups = lowest (project_faults groups)
