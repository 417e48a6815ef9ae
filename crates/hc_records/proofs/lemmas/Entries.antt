-- The entries of a project's areas, and what holds of each area of a task.
use Rattle.std.proofs.Common.{◌≡◌, ℕ, true, List, [], Option, Some, None, refl}
use Rattle.std.specs.Prelude.{All, find, ◌==◌}
use Rattle.std.specs.List.{enumerate_from, flat_map}
use Rattle.std.specs.Option.{option_map_or}
use Rattle.std.proofs.lemmas.List.Elements.{All-nil, All-append, All-weaker}
use Rattle.hc_records.specs.declared.records.Dir.{Dir}
use Rattle.hc_records.specs.declared.records.Dir.TheVariants.{Out, In}
use Rattle.hc_records.specs.declared.records.Pdo.{Pdo}
use Rattle.hc_records.specs.declared.records.Area.{Area}
use Rattle.hc_records.specs.Area.{Entry, assigned_entries, entries_at}
use Rattle.hc_records.specs.Line.{Member, State, groups_of, line}
use Rattle.hc_records.specs.TaskList.{Listed, belongs, slave_areas, task_areas}
use Rattle.hc_records.specs.Project.{lowest_fault}
use Rattle.hc_records.specs.Limits.{IsAreaInside, IsEntryInside, IsPdoInside, IsSlaveInside}
use Rattle.hc_records.proofs.lemmas.Finds.{found-all}
use Rattle.hc_records.proofs.lemmas.Slaves.{line-inside}
use Rattle.hc_records.proofs.lemmas.Lists.{All-enumerate_from, All-flat_map}
use Rattle.hc_records.proofs.lemmas.Tasks.{listed, slave-areas-all}

-- the assigned entries of an area have 1 to 64 bits each
abbrev pub HasEntryWidths : Area → Type 0
HasEntryWidths area = All IsEntryInside (assigned_entries area)

-- the entries of a PDO that is found, or none
found-entries : (P : Entry → Type 0) (found : Option Pdo) → ((pdo : Pdo) → found ≡ Some pdo → All P pdo.entries) → All P (option_map_or (λ pdo. pdo.entries) found [])
found-entries P None each = All-nil P
found-entries P (Some pdo) each = each pdo refl

-- what holds of the entries of all offered PDOs holds of those of the assigned ones
pub assigned-all : (P : Entry → Type 0) (area : Area) → All (λ pdo. All P pdo.entries) area.offered → All P (assigned_entries area)
assigned-all P area all =
    All-flat_map P (entries_at area.offered) area.assigned
    (each-index (λ index. found-entries P (find (λ pdo. pdo.index == index) area.offered) (λ pdo is. found-all (λ pdo. All P pdo.entries) (λ pdo. pdo.index == index) area.offered pdo all is)))
  where
    each-index : ((index : ℕ) → All P (entries_at area.offered index)) → All (λ index. All P (entries_at area.offered index)) area.assigned
    each-index each k d within = each _

area-widths : (area : Area) → IsAreaInside area → HasEntryWidths area
area-widths area inside =
    assigned-all IsEntryInside area (All-weaker IsPdoInside (λ pdo. All IsEntryInside pdo.entries) (λ pdo unchanged. unchanged.entries) area.offered inside.pdos)

-- the assigned entries of every slave of the line of a project
pub line-widths : (state : State) → lowest_fault (groups_of state.groups) ≡ None → All (λ member. All HasEntryWidths member.slave.areas) (line state)
line-widths state none =
    All-weaker (λ member. IsSlaveInside member.slave) (λ member. All HasEntryWidths member.slave.areas)
    (λ member inside. All-weaker IsAreaInside HasEntryWidths area-widths member.slave.areas inside.areas) (line state) (line-inside state.groups none)

-- what holds of each area of each slave of the line in either direction, where it belongs, holds of a task's areas
pub task-areas-all : (P : Listed → Type 0) (task : ℕ) (line : List Member) →
    ((dir : Dir) → All (λ member. All (λ e. belongs task dir e.1 ≡ true → P (listed dir member.rank e)) (enumerate_from 0 member.slave.areas)) line) → All P (task_areas task line)
task-areas-all P task line all =
    All-append P (flat_map (slave_areas task Out) line) (flat_map (slave_areas task In) line) (direction Out) (direction In)
  where
    direction : (dir : Dir) → All P (flat_map (slave_areas task dir) line)
    direction dir =
        All-flat_map P (slave_areas task dir) line
        (All-weaker (λ member. All (λ e. belongs task dir e.1 ≡ true → P (listed dir member.rank e)) (enumerate_from 0 member.slave.areas))
        (λ member. All P (slave_areas task dir member)) (λ member. slave-areas-all P task dir member) line (all dir))

pub task-widths : (state : State) (task : ℕ) → lowest_fault (groups_of state.groups) ≡ None → All (λ listed. HasEntryWidths listed.area) (task_areas task (line state))
task-widths state task none =
    task-areas-all (λ area. HasEntryWidths area.area) task (line state)
    (λ dir. All-weaker (λ member. All HasEntryWidths member.slave.areas) (λ member. All (λ e. belongs task dir e.1 ≡ true → HasEntryWidths e.1) (enumerate_from 0 member.slave.areas))
    (λ member all. All-weaker (λ e. HasEntryWidths e.1) (λ e. belongs task dir e.1 ≡ true → HasEntryWidths e.1) (λ e widths belonging. widths) (enumerate_from 0 member.slave.areas)
    (All-enumerate_from HasEntryWidths 0 member.slave.areas all))
    (line state) (line-widths state none))
