-- An edit that is worked out on a line.
use Rattle.std.specs.Prelude.{◌≡◌, ℕ, false, None, ◌+◌}
use Rattle.hc_records.specs.declared.edit.Edit.{Edit}
use Rattle.hc_records.specs.Edits.{over_limit_task, declares, groups_after}
use Rattle.hc_records.specs.Line.{line_from, State}
use Rattle.hc_groups.specs.Edits.{own_fault}
use Rattle.hc_places.specs.Table.{Table, table_of}
use Rattle.hc_changes.specs.EditedLine.{EditedLine, IsEditedLine}

-- an edit that declares no group and has no fault of its own leads from the old groups to the new ones of an edited line; the table is the old
-- line's, and no task of the old line is over its limit
pub record Makes (edit : Edit) (table : Table) (edited_line : EditedLine) : Type 0 where
  pub is : IsEditedLine edited_line
  pub changes : declares edit ≡ false
  pub own : own_fault edited_line.old edit ≡ None
  pub leads : edited_line.new ≡ groups_after edited_line.old edit
  pub fits : over_limit_task (line_from 1 edited_line.old) ≡ None
  pub of_old : table ≡ table_of (line_from 1 edited_line.old)

-- the states before an edit of a line and after it, by the epoch that the line has before it

-- the state before an edit: its groups, in this epoch
abbrev pub state_before : ℕ → EditedLine → State
state_before epoch edited_line = record { groups = edited_line.old; epoch = epoch }

-- the state after an edit: its groups, in the next epoch
abbrev pub state_after : ℕ → EditedLine → State
state_after epoch edited_line = record { groups = edited_line.new; epoch = epoch + 1 }
