-- Two lines that differ by a change, and tasks that are turned from the one to the other.
use Rattle.std.specs.Prelude.{◌≡◌, ℕ, ◌+◌, ◌<◌, List, [], ◌++◌, length, slice_index_or, None, false}
use Rattle.hc_records.specs.declared.keys.Key.{Key}
use Rattle.hc_records.specs.declared.limits.TheConstants.{TASKS}
use Rattle.hc_bitsum.specs.Tree.{Tree}
use Rattle.hc_cuts.specs.Starts.{TaskCuts}
use Rattle.hc_cuts.specs.LineChange.{LineChange}
use Rattle.hc_cuts.specs.TaskCuts.{IsProjectLine, over_limit_from, is_over_limit, both_task_cuts, task_cuts_from, starts_by, tree_by}
use Rattle.hc_cuts.specs.Areas.{AreaLine}

-- the slaves of the change have their areas before in the old line and those after in the new one; each other slave has the same in both
pub record AreLines (change : LineChange) (old new : AreaLine) : Type 0 where
  pub front : AreaLine
  pub after_it : AreaLine
  pub rank : change.first ≡ length front + 1
  pub many : length change.areas_after ≡ length change.areas_before
  pub was : old ≡ front ++ (change.areas_before ++ after_it)
  pub is : new ≡ front ++ (change.areas_after ++ after_it)
  pub old_line : IsProjectLine old
  pub new_line : IsProjectLine new

-- there are two such lines
pub record HasLines (change : LineChange) : Type 0 where
  pub old : AreaLine
  pub new : AreaLine
  pub lines : AreLines change old new

-- the tasks from one on, `count` of them, are those of the old line, and none of them needs more than 16 datagrams
pub record AppliesWidths (count task : ℕ) (tasks : List TaskCuts) (change : LineChange) (old new : AreaLine) : Type 0 where
  pub lines : AreLines change old new
  pub of_old : tasks ≡ task_cuts_from count task old
  pub fits : over_limit_from count task old ≡ None

-- the tasks of a list, from one on, are those of the old line, and none of them needs more than 16 datagrams
abbrev pub Applies : ℕ → List TaskCuts → LineChange → AreaLine → AreaLine → Type 0
Applies task tasks change old new = AppliesWidths (length tasks) task tasks change old new

-- there are two such lines
pub record CanApplyWidths (count task : ℕ) (tasks : List TaskCuts) (change : LineChange) : Type 0 where
  pub old : AreaLine
  pub new : AreaLine
  pub apply_widths : AppliesWidths count task tasks change old new

-- a task of the old line, and the two lines

-- a task is that of the old of two such lines, and needs at most 16 datagrams in it
pub record AppliesTaskWidths (task : ℕ) (cuts : TaskCuts) (change : LineChange) (old new : AreaLine) : Type 0 where
  pub lines : AreLines change old new
  pub of_old : cuts ≡ both_task_cuts task old
  pub fits : is_over_limit task old ≡ false

-- there are two such lines, and a task is that of the old one
pub record CanApplyTaskWidths (task : ℕ) (cuts : TaskCuts) (change : LineChange) : Type 0 where
  pub old : AreaLine
  pub new : AreaLine
  pub apply_widths : AppliesTaskWidths task cuts change old new

-- two lines that differ so, and a tree holds the task's areas in the old one
pub record HasTree (task : ℕ) (tree : Tree) (change : LineChange) : Type 0 where
  pub old : AreaLine
  pub new : AreaLine
  pub lines : AreLines change old new
  pub holds : tree ≡ tree_by task old

-- boundaries without END are those of the eight tasks of a line
abbrev pub AreStartsOf : AreaLine → List (List Key) → Type 0
AreStartsOf line starts = (task : ℕ) → task < TASKS → slice_index_or starts task [] ≡ starts_by task line

-- the tasks from one on, `count` of them, are those of the old line, and the boundaries of the new line's are known
pub record RestoresWidths (count task : ℕ) (tasks : List TaskCuts) (change : LineChange) (starts : List (List Key)) (old new : AreaLine) : Type 0 where
  pub lines : AreLines change old new
  pub of_old : tasks ≡ task_cuts_from count task old
  pub known : AreStartsOf new starts

-- there are two such lines
pub record CanRestoreWidths (count task : ℕ) (tasks : List TaskCuts) (change : LineChange) (starts : List (List Key)) : Type 0 where
  pub old : AreaLine
  pub new : AreaLine
  pub restore_widths : RestoresWidths count task tasks change starts old new
