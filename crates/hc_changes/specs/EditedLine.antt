-- The effect of an edit on a line, before it is carried out.
use Rattle.std.specs.Prelude.{◌≡◌, List, None, map}
use Rattle.hc_records.specs.declared.records.Declared.{Declared}
use Rattle.hc_records.specs.Line.{groups_of, line_from}
use Rattle.hc_records.specs.Project.{lowest_fault}
use Rattle.hc_groups.specs.declared.prepared.Prepared.{Prepared}
use Rattle.hc_groups.specs.Changes.{changed_groups}
use Rattle.hc_groups.specs.Rows.{areas_in_line, first_rank_of, row}
use Rattle.hc_cuts.specs.Areas.{areas_by_rank}
use Rattle.hc_cuts.specs.LineChange.{LineChange, changes}
use Rattle.hc_cuts.specs.ApplyWidths.{AreLines}
use Rattle.hc_changes.specs.MaybeMovedAreas.{MaybeMoved, DifferAt, maybe_moved_of, maybe_moved_areas}
use Rattle.hc_changes.specs.Edited.{HasEdit}

-- the differences that a change of declared groups makes in their line: the slaves that it concerns, with the areas that each
-- has before and after
abbrev pub line_change_of : Prepared → List Declared → LineChange
line_change_of change groups = record {
  first = first_rank_of change;
  areas_before = map areas_in_line (row change groups);
  areas_after = map areas_in_line (row change (changed_groups change groups));
}

-- the declared groups before the edit and after it, and what differs in their line
pub record EditedLine : Type 0 where
  pub old : List Declared
  pub new : List Declared
  pub change : LineChange

-- the effect of a change on the line of some groups
abbrev pub edited_line_of : Prepared → List Declared → EditedLine
edited_line_of change groups = record { old = groups; new = changed_groups change groups; change = line_change_of change groups }

-- an edit leads from the groups of a project to the new ones, which are a project's again, and the lines differ in the areas of these slaves alone
pub record IsEditedLine (edited_line : EditedLine) : Type 0 where
  pub edited : HasEdit edited_line.old edited_line.new
  pub was_project : lowest_fault (groups_of edited_line.old) ≡ None
  pub is_project : lowest_fault (groups_of edited_line.new) ≡ None
  pub lines : AreLines edited_line.change (areas_by_rank edited_line.old) (areas_by_rank edited_line.new)
  pub slaves : DifferAt (changes edited_line.change) (line_from 1 edited_line.old) (line_from 1 edited_line.new)

-- the candidates of what an edit makes of a line, each with its place there
abbrev pub maybe_moved_areas_of : EditedLine → List MaybeMoved
maybe_moved_areas_of edited_line =
    map (maybe_moved_of (line_from 1 edited_line.new)) (maybe_moved_areas (changes edited_line.change) (line_from 1 edited_line.old) (line_from 1 edited_line.new))
