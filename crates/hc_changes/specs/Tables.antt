-- The tasks whose tables an edit changes, reported without laying the tasks out: the use of a kept datagram is in the old
-- table.
use Rattle.std.specs.Prelude.{◌≡◌, List, None}
use Rattle.hc_records.specs.declared.records.Declared.{Declared}
use Rattle.hc_records.specs.Line.{groups_of, line_from}
use Rattle.hc_records.specs.Project.{lowest_fault}
use Rattle.hc_cuts.specs.Starts.{TaskCuts}
use Rattle.hc_cuts.specs.Areas.{areas_by_rank}
use Rattle.hc_cuts.specs.LineKeeping.{Before, IsKnownBefore}
use Rattle.hc_cuts.specs.TaskCuts.{line_cuts}
use Rattle.hc_places.specs.Table.{Table, table_of}

-- the trees of a project's line
pub record AreTreesOf (groups : List Declared) (trees : List TaskCuts) : Type 0 where
  pub project : lowest_fault (groups_of groups) ≡ None
  pub of_groups : trees ≡ line_cuts (areas_by_rank groups)

-- the trees of some project's line
pub record AreOfLine (trees : List TaskCuts) : Type 0 where
  pub groups : List Declared
  pub line : AreTreesOf groups trees

-- the table of a project's line before an edit, what was known of its tasks before they were turned, and the trees of the line after it
pub record TableIsEdited (before after : List Declared) (old : Table) (known : Before) (trees : List TaskCuts) : Type 0 where
  pub project : lowest_fault (groups_of before) ≡ None
  pub table : old ≡ table_of (line_from 1 before)
  pub tasks : IsKnownBefore (areas_by_rank before) (areas_by_rank after) known
  pub line : AreTreesOf after trees

-- this holds of the groups after each edit that leads from this table, with what was known before it, to these trees
abbrev pub AfterEdit : Table → Before → List TaskCuts → (List Declared → Type 0) → Type 0
AfterEdit old known trees says = (was is : List Declared) → TableIsEdited was is old known trees → says is
