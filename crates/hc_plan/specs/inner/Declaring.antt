-- The conditions and the memory for declaring a group after those of a plan.
use Rattle.std.specs.Prelude.{◌≡◌, ℕ, ◌+◌, ◌*◌, ◌==◌, ◌≤◌, nat_lt, Bool, false, List, [], ◌∷◌, None, Option, Some, length}
use Rattle.std.specs.List.{list_any}
use Rattle.std.specs.Option.{option_map_or}
use Rattle.hc_records.specs.declared.faults.EditFault.{EditFault}
use Rattle.hc_records.specs.declared.faults.EditFault.TheVariants.{AliasTaken, StationTaken, VariableTaken, TooManyGroups, TooManySlaves}
use Rattle.hc_records.specs.declared.limits.TheConstants.{MOST_GROUPS, MOST_SLAVES}
use Rattle.hc_records.specs.declared.records.Area.{Area}
use Rattle.hc_records.specs.declared.records.Declared.{Declared}
use Rattle.hc_records.specs.declared.records.Group.{Group}
use Rattle.hc_records.specs.declared.records.Pdo.{Pdo}
use Rattle.hc_records.specs.Area.{Entry}
use Rattle.hc_records.specs.Boundaries.{recut}
use Rattle.hc_registers.specs.Blocks.{line_blocks}
use Rattle.hc_places.specs.Table.{table_of}
use Rattle.hc_records.specs.Edits.{declaring_faults, has_station, is_declared_variable}
use Rattle.hc_records.specs.declared.edit.Edit.{Edit}
use Rattle.hc_records.specs.Line.{Member, State, groups_of, line}
use Rattle.hc_records.specs.Lists.{lowest}
use Rattle.hc_records.specs.Project.{lowest_fault, slave_names}
use Rattle.hc_bitsum.specs.Tree.{HasRoom}
use Rattle.hc_cuts.specs.Starts.{TaskCuts}
use Rattle.hc_groups.specs.Room.{IsIndexRoomFor}
use Rattle.hc_cuts.specs.Areas.{areas_by_rank}
use Rattle.hc_cuts.specs.TaskCuts.{line_cuts}
use Rattle.hc_cuts.specs.Room.{with_absent}
use Rattle.hc_plan.specs.declared.declaring.Declaration.{Declaration}
use Rattle.hc_plan.specs.declared.report.Report.{Report}
use Rattle.hc_plan.specs.RegisterBlocks.{blocks_by_rank}
use Rattle.hc_plan.specs.Reports.{ReportsEdit}

-- an entry names a variable that is declared already
abbrev pub names_taken : List Declared → Entry → Bool
names_taken groups entry = option_map_or (is_declared_variable groups) entry.0 false

-- an entry of a PDO names a variable that is declared already
abbrev pub pdos_take : List Declared → List Pdo → Bool
pdos_take groups pdos = list_any (λ pdo. list_any (names_taken groups) pdo.entries) pdos

-- an area offers a PDO with an entry that names a variable that is declared already
abbrev pub areas_take : List Declared → List Area → Bool
areas_take groups areas = list_any (λ area. pdos_take groups area.offered) areas

-- the faults of a declared group by what is taken already; those by the limits are after them in `declaring_faults`
abbrev pub taken_faults : List Declared → Group → List (Bool × EditFault)
taken_faults groups group =
    (list_any (λ declared. declared.group.alias == group.alias) groups, AliasTaken)
    ∷ (list_any (λ slave. list_any (λ declared. has_station slave.station declared.group.slaves) groups) group.slaves, StationTaken)
    ∷ (list_any (is_declared_variable groups) (slave_names group.slaves), VariableTaken)
    ∷ []

-- the faults by the limits, if so many groups and slaves are declared already
abbrev pub limit_faults : ℕ → ℕ → Group → List (Bool × EditFault)
limit_faults groups slaves group =
    (nat_lt MOST_GROUPS (groups + 1), TooManyGroups) ∷ (nat_lt MOST_SLAVES (slaves + length group.slaves), TooManySlaves) ∷ []

-- trees for a line's tasks with room for so many slaves: the tasks' own if these have room, otherwise wider ones, in which the added slaves are
-- absent
abbrev pub AreTrees : List TaskCuts → ℕ → Option (List TaskCuts) → Type 0
AreTrees tasks slaves None = (line : List (List Area)) → tasks ≡ line_cuts line → HasRoom (length line) slaves
AreTrees tasks slaves (Some wider) =
    (line : List (List Area)) (count : ℕ) → tasks ≡ line_cuts line → slaves ≡ length line + count → wider ≡ line_cuts (with_absent count line)

-- the group may be declared after those of a project, and there is memory for it in their list, in their index, in the places of their line's blocks and in the trees of its tasks
pub record CanDeclare (groups : List Declared) (declaration : Declaration) : Type 0 where
  pub project : lowest_fault (groups_of groups) ≡ None
  pub free : lowest (declaring_faults groups declaration.group) ≡ None
  pub slaves : declaration.slaves ≡ length (areas_by_rank groups) + length declaration.group.slaves
  pub list : length groups + 1 ≤ declaration.groups
  pub index : IsIndexRoomFor groups declaration.group declaration.index
  pub blocks : length (blocks_by_rank groups) + 16 * length declaration.group.slaves ≤ declaration.blocks
  pub trees : AreTrees (line_cuts (areas_by_rank groups)) declaration.slaves declaration.wider

-- two lines are configured alike: their tables and their register blocks are equal, and no span is recut
pub record AreAlike (old new : List Member) : Type 0 where
  pub table : table_of new ≡ table_of old
  pub recut : recut old new ≡ 0
  pub blocks : line_blocks new ≡ line_blocks old

-- a report of an edit that leaves the line configured as it was: it reports the edit to any state of the next epoch whose line is configured alike
abbrev pub ShowsNothing : State → Edit → Report → Type 0
ShowsNothing old edit report = (new : State) → AreAlike (line old) (line new) → new.epoch ≡ old.epoch + 1 → ReportsEdit old edit new report
