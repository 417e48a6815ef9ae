-- The line of an edit before it and after it, by the areas of their slaves.
use Rattle.std.proofs.Common.{◌≡◌, ◌∙◌, ℕ, List, None, sym, rules}
use Rattle.std.specs.Prelude.{Option}
use Rattle.hc_records.specs.declared.keys.Key.{Key}
use Rattle.hc_records.specs.declared.records.Declared.{Declared}
use Rattle.hc_records.specs.Edits.{over_limit_task}
use Rattle.hc_records.specs.Line.{line_from}
use Rattle.hc_cuts.specs.Starts.{TaskCuts}
use Rattle.hc_cuts.specs.Areas.{areas_by_rank}
use Rattle.hc_cuts.specs.TaskCuts.{over_limit_from, line_cuts}
use Rattle.hc_cuts.specs.LineChange.{LineChange, back}
use Rattle.hc_cuts.specs.ApplyWidths.{AreLines, AreStartsOf, RestoresWidths, AppliesWidths}
use Rattle.hc_cuts.proofs.lemmas.Projects.{line-over_limit}
use Rattle.hc_cuts.proofs.lemmas.Applying.{answer_given-back}
use Rattle.hc_changes.specs.EditedLine.{EditedLine, IsEditedLine}

-- what is over its limit, by the line and by the areas of its slaves
pub over_limit-line : (groups : List Declared) (over_limit : Option ℕ) → over_limit_from 8 0 (areas_by_rank groups) ≡ over_limit → over_limit_task (line_from 1 groups) ≡ over_limit
over_limit-line groups over_limit is = line-over_limit groups ∙ is

line-areas : (groups : List Declared) (over_limit : Option ℕ) → over_limit_task (line_from 1 groups) ≡ over_limit → over_limit_from 8 0 (areas_by_rank groups) ≡ over_limit
line-areas groups over_limit is = sym (line-over_limit groups) ∙ is

pub edited_line-lines : (it : EditedLine) (change : LineChange) → IsEditedLine it → change ≡ it.change → AreLines change (areas_by_rank it.old) (areas_by_rank it.new)
edited_line-lines it change is same = search rules

-- the trees of the line before an edit are turned to those of the line after it

pub edited_line-apply_widths : (it : EditedLine) (unchanged : List TaskCuts) (change : LineChange) → IsEditedLine it → unchanged ≡ line_cuts (areas_by_rank it.old)
    → over_limit_task (line_from 1 it.old) ≡ None → change ≡ it.change → AppliesWidths 8 0 unchanged change (areas_by_rank it.old) (areas_by_rank it.new)
edited_line-apply_widths it unchanged change is trees fits same = search (rules, edited_line-lines, line-areas)

-- and by boundaries that are known

pub edited_line-restore_widths : (it : EditedLine) (unchanged : List TaskCuts) (change : LineChange) (starts : List (List Key)) → IsEditedLine it → unchanged ≡ line_cuts (areas_by_rank it.old)
    → AreStartsOf (areas_by_rank it.new) starts → change ≡ it.change → RestoresWidths 8 0 unchanged change starts (areas_by_rank it.old) (areas_by_rank it.new)
edited_line-restore_widths it unchanged change starts is trees known same = search (rules, edited_line-lines)

pub edited_line-back : (it : EditedLine) (unchanged : List TaskCuts) (change other : LineChange) (starts : List (List Key)) → IsEditedLine it → unchanged ≡ line_cuts (areas_by_rank it.new)
    → AreStartsOf (areas_by_rank it.old) starts → change ≡ it.change → other ≡ back change → RestoresWidths 8 0 unchanged other starts (areas_by_rank it.new) (areas_by_rank it.old)
edited_line-back it unchanged change other starts is trees known same applied =
    record { lines = answer_given-back change other (areas_by_rank it.old) (areas_by_rank it.new) applied (edited_line-lines it change is same); of_old = trees; known = known }
