-- The state after an edit, and the faults of edits.
use Rattle.std.specs.Prelude.{ℕ, ◌+◌, ◌==◌, ◌&&◌, not, nat_lt, is_none, is_some, unwrap_or, Bool, true, false, if◌then◌else◌, List, [], ◌∷◌, ◌++◌, length, map, find, slice_get, option_and_then, Option, Some, None, Result, Ok, Err}
use Rattle.std.specs.Option.{option_map_or}
use Rattle.std.specs.Result.{result_unwrap_or}
use Rattle.std.specs.List.{list_any}
use Rattle.hc_records.specs.declared.limits.TheConstants.{LAST_EPOCH, MOST_AREA_BITS, MOST_DATAGRAMS, MOST_GROUPS, MOST_SLAVES, TASKS}
use Rattle.hc_records.specs.declared.records.Area.{Area}
use Rattle.hc_records.specs.declared.records.Slave.{Slave}
use Rattle.hc_records.specs.declared.records.Group.{Group}
use Rattle.hc_records.specs.declared.edit.Edit.{Edit}
use Rattle.hc_records.specs.declared.edit.Edit.TheVariants.{Connect, Disconnect, Remap, Move, Declare}
use Rattle.hc_records.specs.declared.faults.ProjectFault.TheVariants.{OutOfRange}
use Rattle.hc_records.specs.declared.faults.EditFault.{EditFault}
use Rattle.hc_records.specs.declared.faults.EditFault.TheVariants.{UnknownAlias, AlreadyPresent, NotPresent, Mandatory, UnknownStation, Absent, NoSuchArea, NoSuchTask, UnknownPdo, RepeatedPdo, AreaTooBig, TooManyDatagrams, EpochsSpent, BadGroup, AliasTaken, StationTaken, VariableTaken, TooManyGroups, TooManySlaves}
use Rattle.hc_records.specs.Lists.{changed_at, has_repeat, lowest}
use Rattle.hc_records.specs.Area.{has_unknown, width}
use Rattle.hc_records.specs.declared.records.Declared.{Declared}
use Rattle.hc_records.specs.Line.{State, Member, groups_of, has_address, is_at, line}
use Rattle.hc_records.specs.Project.{lowest_fault, slave_names, slaves_of}
use Rattle.hc_records.specs.Image.{datagram_count, task_places, tasks}

-- a declared group has the alias
abbrev pub is_declared : State → ℕ → Bool
is_declared state alias = list_any (λ declared. declared.group.alias == alias) state.groups

-- a present group has the alias
abbrev pub is_present : State → ℕ → Bool
is_present state alias = list_any (λ declared. (declared.group.alias == alias) && declared.present) state.groups

-- one of these slaves has the station address
abbrev pub has_station : ℕ → List Slave → Bool
has_station station slaves = list_any (has_address station) slaves

-- a slave of a declared group, present or not, has the station address
abbrev pub is_declared_station : State → ℕ → Bool
is_declared_station state station = list_any (λ declared. has_station station declared.group.slaves) state.groups

-- the slave of the line with a station address
abbrev pub slave_at : State → ℕ → Option Member
slave_at state station = find (is_at station) (line state)

-- the area with a number, from 0, of the slave of the line with a station address; none if there is no such slave or area
abbrev pub area_at : State → ℕ → ℕ → Option Area
area_at state station area = option_and_then (λ member. slice_get member.slave.areas area) (slave_at state station)

-- with these PDOs assigned the area has more bits than a datagram
abbrev pub is_too_big : List ℕ → Area → Bool
is_too_big pdos area = nat_lt MOST_AREA_BITS (width (record area { assigned = pdos }))

-- the lowest task of a line that has more than 16 datagrams
abbrev pub over_limit_task : List Member → Option ℕ
over_limit_task line = find (λ task. nat_lt MOST_DATAGRAMS (datagram_count (task_places task line))) tasks

-- the declared group, with its presence set if it has the alias
abbrev pub with_presence : ℕ → Bool → Declared → Declared
with_presence alias present declared =
    if declared.group.alias == alias then record declared { present = present } else declared

-- the slave, with an area changed if it has the station address
abbrev pub with_area : ℕ → ℕ → (Area → Area) → Slave → Slave
with_area station area change slave =
    if slave.station == station then record slave { areas = changed_at area change slave.areas } else slave

-- the declared group with a change made to the record of each of its slaves
abbrev pub with_slaves : (Slave → Slave) → Declared → Declared
with_slaves change declared =
    record declared { group = record declared.group { slaves = map change declared.group.slaves } }

-- a group as it is declared: it is absent
abbrev pub absent : Group → Declared
absent group = record { group = group; present = false }

-- the declared groups after an edit that is not refused
abbrev pub groups_after : List Declared → Edit → List Declared
groups_after groups (Connect alias) = map (with_presence alias true) groups
groups_after groups (Disconnect alias) = map (with_presence alias false) groups
groups_after groups (Remap station area pdos) = map (with_slaves (with_area station area (λ a. record a { assigned = pdos }))) groups
groups_after groups (Move station area task) = map (with_slaves (with_area station area (λ a. record a { task = task }))) groups
groups_after groups (Declare group) = groups ++ absent group ∷ []

-- the edit declares a group: every other edit leaves the same groups and slaves declared
abbrev pub declares : Edit → Bool
declares (Connect alias) = false
declares (Disconnect alias) = false
declares (Remap station area pdos) = false
declares (Move station area task) = false
declares (Declare group) = true

-- the state after such an edit: its epoch is one more
abbrev pub changed : State → Edit → State
changed state edit = record { groups = groups_after state.groups edit; epoch = state.epoch + 1 }

-- the faults of Remap and Move by their slave and area
abbrev pub area_faults : State → ℕ → ℕ → List (Bool × EditFault)
area_faults state station area =
    (not (is_declared_station state station), UnknownStation)
    ∷ (is_none (slave_at state station), Absent)
    ∷ (is_none (area_at state station area), NoSuchArea)
    ∷ []

-- the faults of each edit with their conditions, the lowest first
abbrev pub own_faults : State → Edit → List (Bool × EditFault)
own_faults state (Connect alias) =
    (not (is_declared state alias), UnknownAlias) ∷ (is_present state alias, AlreadyPresent) ∷ []
own_faults state (Disconnect alias) =
    (not (is_declared state alias), UnknownAlias)
    ∷ (not (is_present state alias), NotPresent)
    ∷ (alias == 0, Mandatory)
    ∷ []
own_faults state (Remap station area pdos) =
    area_faults state station area
    ++ (option_map_or (has_unknown pdos) (area_at state station area) false, UnknownPdo)
    ∷ (has_repeat pdos, RepeatedPdo)
    ∷ (option_map_or (is_too_big pdos) (area_at state station area) false, AreaTooBig)
    ∷ []
own_faults state (Move station area task) =
    area_faults state station area ++ (not (nat_lt task TASKS), NoSuchTask) ∷ []
own_faults state (Declare group) = []

-- the smallest project that may have a group: an empty mandatory group is before it
abbrev pub smallest_project : Group → List Group
smallest_project group = record { alias = 0; slaves = [] } ∷ group ∷ []

-- a slave of a declared group, present or not, offers the variable in one of its areas
abbrev pub is_declared_variable : List Declared → ℕ → Bool
is_declared_variable groups variable = list_any (λ name. name == variable) (slave_names (slaves_of (groups_of groups)))

-- the faults of a group that is declared after others, the lowest first: those that it has by itself, what is taken already, and the limits
abbrev pub declaring_faults : List Declared → Group → List (Bool × EditFault)
declaring_faults groups group =
    (is_some (lowest_fault (smallest_project group)), BadGroup (unwrap_or (lowest_fault (smallest_project group)) OutOfRange))
    ∷ (list_any (λ declared. declared.group.alias == group.alias) groups, AliasTaken)
    ∷ (list_any (λ slave. list_any (λ declared. has_station slave.station declared.group.slaves) groups) group.slaves, StationTaken)
    ∷ (list_any (is_declared_variable groups) (slave_names group.slaves), VariableTaken)
    ∷ (nat_lt MOST_GROUPS (length groups + 1), TooManyGroups)
    ∷ (nat_lt MOST_SLAVES (length (slaves_of (groups_of groups)) + length group.slaves), TooManySlaves)
    ∷ []

-- the faults that are judged after all others: those of a declared group
abbrev pub late_faults : State → Edit → List (Bool × EditFault)
late_faults state (Connect alias) = []
late_faults state (Disconnect alias) = []
late_faults state (Remap station area pdos) = []
late_faults state (Move station area task) = []
late_faults state (Declare group) = declaring_faults state.groups group

-- the faults of an edit: its own, then those that every edit may have, a task over the limit of the new line and the last epoch, then those of a
-- declared group
abbrev pub edit_faults : State → Edit → List (Bool × EditFault)
edit_faults state edit =
    own_faults state edit
    ++ (is_some (over_limit_task (line (changed state edit))), TooManyDatagrams (unwrap_or (over_limit_task (line (changed state edit))) 0))
    ∷ (state.epoch == LAST_EPOCH, EpochsSpent)
    ∷ late_faults state edit

-- the fault, if there is one; else the state
abbrev pub refused_by : Option EditFault → State → Result State EditFault
refused_by None state = Ok state
refused_by (Some fault) state = Err fault

-- the new state, or the lowest fault whose condition holds
abbrev pub edited : State → Edit → Result State EditFault
edited state edit = refused_by (lowest (edit_faults state edit)) (changed state edit)

-- the state that an edit leaves: a refused one changes nothing
abbrev pub state_after : State → Edit → State
state_after state edit = result_unwrap_or (edited state edit) state

-- the state that a list of edits leaves
abbrev pub state_after_all : State → List Edit → State
state_after_all state [] = state
state_after_all state (edit ∷ edits) = state_after_all (state_after state edit) edits
