-- The content of a prepared edit, so that carrying it out allocates nothing and cannot fail.
use Rattle.std.specs.Prelude.{◌≡◌, ℕ, ◌+◌, false, [], ◌∷◌, ◌++◌, List, None, Some, find, slice_get}
use Rattle.hc_records.specs.declared.edit.Edit.{Edit}
use Rattle.hc_records.specs.declared.edit.Edit.TheVariants.{Connect, Disconnect, Remap, Move, Declare}
use Rattle.hc_records.specs.declared.records.Area.{Area}
use Rattle.hc_records.specs.declared.records.Declared.{Declared}
use Rattle.hc_records.specs.Area.{width}
use Rattle.hc_records.specs.Edits.{absent, declares, groups_after, over_limit_task}
use Rattle.hc_records.specs.Line.{Member, State, groups_of, is_at, line, line_from}
use Rattle.hc_records.specs.Project.{lowest_fault}
use Rattle.hc_registers.specs.declared.ranked.Gone.{Gone}
use Rattle.hc_registers.specs.Ranked.{RankedBlock}
use Rattle.hc_cuts.specs.Areas.{areas_by_rank}
use Rattle.hc_cuts.specs.TaskCuts.{line_cuts}
use Rattle.hc_cuts.specs.ApplyWidths.{AreStartsOf}
use Rattle.hc_groups.specs.declared.prepared.Prepared.{Prepared}
use Rattle.hc_groups.specs.Changes.{change_by, changed_groups}
use Rattle.hc_groups.specs.Rows.{ChangesRow}
use Rattle.hc_places.specs.Room.{IsRowRoomFor}
use Rattle.hc_places.specs.Table.{table_of}
use Rattle.hc_plan.specs.declared.report.Report.{Report}
use Rattle.hc_plan.specs.declared.work.LineWork.{LineWork}
use Rattle.hc_plan.specs.declared.work.Work.{Work}
use Rattle.hc_plan.specs.declared.work.Work.TheVariants.{NewGroup, NewLine, NewTask}
use Rattle.hc_plan.specs.Gone.{gone_of, none_gone}
use Rattle.hc_plan.specs.inner.Declaring.{AreAlike, CanDeclare}
use Rattle.hc_plan.specs.Prepared.{IsPrepared, PreparedEdit}

-- the area at an index, if there is one, has no bits
abbrev pub HasNoBits : ℕ → List Area → Type 0
HasNoBits index areas = (area : Area) → slice_get areas index ≡ Some area → width area ≡ 0

-- the declared groups that an edit leaves, by its work
abbrev pub groups_left_by : Work → List Declared → List Declared
groups_left_by (NewLine work) groups = changed_groups work.change groups
groups_left_by (NewTask change) groups = changed_groups change groups
groups_left_by (NewGroup declaration) groups = groups ++ absent declaration.group ∷ []

-- the slaves that leave the line with an edit, by its work
abbrev pub gone_by : Work → Gone
gone_by (NewLine work) = gone_of work.change
gone_by (NewTask change) = gone_of change
gone_by (NewGroup declaration) = none_gone

-- the prepared edit of a state, from its work, its report and the blocks that it moves
abbrev pub prepared_of : State → Work → Report → List RankedBlock → PreparedEdit
prepared_of old work report blocks = record {
  old = old;
  new = record { groups = groups_left_by work old.groups; epoch = old.epoch + 1 };
  report = report;
  gone = gone_by work;
  blocks = blocks;
}

-- the lines of two lists of declared groups are configured alike, and their tasks cut alike
pub record AreConfiguredAlike (old new : List Declared) : Type 0 where
  pub alike : AreAlike (line_from 1 old) (line_from 1 new)
  pub cuts : line_cuts (areas_by_rank new) ≡ line_cuts (areas_by_rank old)
  pub crowds : over_limit_task (line_from 1 new) ≡ over_limit_task (line_from 1 old)

-- the edit moves an area of a slave of the line, and this area has no bits or does not exist
abbrev pub MovesNoBits : List Declared → Edit → Type 0
MovesNoBits groups (Connect alias) = ⊥
MovesNoBits groups (Disconnect alias) = ⊥
MovesNoBits groups (Remap station area pdos) = ⊥
MovesNoBits groups (Move station area task) =
    (member : Member) × (find (is_at station) (line_from 1 groups) ≡ Some member) × HasNoBits area member.slave.areas
MovesNoBits groups (Declare group) = ⊥

-- the edit makes the change, which leads from a project's groups to those of a project again, the boundaries are those of its line's tasks, and there is memory for the new table's rows
pub record IsLineReady (old : State) (report : Report) (work : LineWork) : Type 0 where
  pub made : change_by old.groups report.swap.edit ≡ Some work.change
  pub changes : declares report.swap.edit ≡ false
  pub leads : changed_groups work.change old.groups ≡ groups_after old.groups report.swap.edit
  pub project : lowest_fault (groups_of (changed_groups work.change old.groups)) ≡ None
  pub row : ChangesRow work.change old.groups
  pub starts : AreStartsOf (areas_by_rank (changed_groups work.change old.groups)) work.starts
  pub rows : IsRowRoomFor report.swap.change (table_of (line old)) work.rows

-- the edit makes the change, which leads to the groups of a project again, and the line is configured as it was
pub record IsTaskReady (old : State) (report : Report) (change : Prepared) : Type 0 where
  pub made : change_by old.groups report.swap.edit ≡ Some change
  pub changes : declares report.swap.edit ≡ false
  pub project : lowest_fault (groups_of (changed_groups change old.groups)) ≡ None
  pub same : AreConfiguredAlike old.groups (changed_groups change old.groups)

-- the work can be carried out in the state that it was worked out in
abbrev pub IsWorkReady : State → Report → Work → Type 0
IsWorkReady old report (NewLine work) = IsLineReady old report work
IsWorkReady old report (NewTask change) = IsTaskReady old report change
IsWorkReady old report (NewGroup declaration) = CanDeclare old.groups declaration

-- the work can be carried out, and with this report and these moved blocks it makes a prepared edit
pub record CanCarry (old : State) (report : Report) (work : Work) (blocks : List RankedBlock) : Type 0 where
  pub ready : IsWorkReady old report work
  pub prepared : IsPrepared (prepared_of old work report blocks)
