-- A state of the project, and the line of a state.
use Rattle.std.specs.Prelude.{ℕ, ◌+◌, ◌<◌, ◌==◌, Bool, if◌then◌else◌, List, [], ◌∷◌, ◌++◌, length, map, sum_by}
use Rattle.std.specs.List.{enumerate_from}
use Rattle.hc_records.specs.declared.records.Slave.{Slave}
use Rattle.hc_records.specs.declared.records.Group.{Group}
use Rattle.hc_records.specs.declared.records.Declared.{Declared}

-- the declared groups with their assigned PDOs and tasks, those that are present, and the epoch
pub record State : Type 0 where
  pub groups : List Declared
  pub epoch : ℕ

-- at opening the group with alias 0, the mandatory one, is present alone, and the epoch is 0
abbrev pub opened_group : Group → Declared
opened_group group = record { group = group; present = group.alias == 0 }

-- the state of a project at its opening: only the mandatory group is present, and the epoch is 0
abbrev pub opened : List Group → State
opened groups = record { groups = map opened_group groups; epoch = 0 }

-- the groups of declared groups, as a project has them
abbrev pub groups_of : List Declared → List Group
groups_of groups = map (λ declared. declared.group) groups

-- a slave of the line: its rank among all declared slaves, counted from 1, and its record
pub record Member : Type 0 where
  pub rank : ℕ
  pub slave : Slave

-- slaves in a row as members of a line: the first one has the rank, and each next one the next rank
abbrev pub members_from : ℕ → List Slave → List Member
members_from rank slaves = map (λ e. record { rank = e.0; slave = e.1 }) (enumerate_from rank slaves)

-- the slaves that a declared group has in the line
abbrev pub present_slaves : Declared → List Slave
present_slaves declared = if declared.present then declared.group.slaves else []

-- the slaves of the present groups, in declared order; the first declared slave has this rank
abbrev pub line_from : ℕ → List Declared → List Member
line_from rank [] = []
line_from rank (declared ∷ rest) =
    members_from rank (present_slaves declared) ++ line_from (rank + length declared.group.slaves) rest

-- the line of a state: the slaves whose group is present, in declared order
abbrev pub line : State → List Member
line state = line_from 1 state.groups

-- the slave has the station address
abbrev pub has_address : ℕ → Slave → Bool
has_address station slave = slave.station == station

-- the station address of the member's slave is this one
abbrev pub is_at : ℕ → Member → Bool
is_at station member = has_address station member.slave

-- every declared slave has a rank of 16 bits
abbrev pub IsCounted : List Declared → Type 0
IsCounted groups = sum_by (λ declared. length declared.group.slaves) groups < 65535
