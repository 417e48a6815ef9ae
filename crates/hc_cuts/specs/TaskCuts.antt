-- The areas and the boundaries of the tasks of a line, as they are stored.
use Rattle.std.specs.Prelude.{◌≡◌, ℕ, zero, suc, ◌+◌, ◌≤◌, nat_lt, Bool, if◌then◌else◌, All, List, [], ◌∷◌, ◌++◌, length, Option, Some, None}
use Rattle.hc_records.specs.declared.limits.TheConstants.{MOST_DATAGRAMS, MOST_SLAVES}
use Rattle.hc_records.specs.declared.keys.Key.{Key}
use Rattle.hc_records.specs.declared.keys.TheConstants.Key.{START, END}
use Rattle.hc_records.specs.Boundaries.{boundaries, later_keys}
use Rattle.hc_records.specs.Image.{datagram_count}
use Rattle.hc_records.specs.Packing.{empty_front, packed}
use Rattle.hc_records.specs.SpanLaws.{IsTaskList}
use Rattle.hc_bitsum.specs.Tree.{Tree}
use Rattle.hc_cuts.specs.Starts.{TaskCuts}
use Rattle.hc_cuts.specs.Areas.{list_by, AreaLine}
use Rattle.hc_cuts.specs.Widths.{AreBounded}

-- the areas of the slaves of a line of a project
pub record IsProjectLine (slaves : AreaLine) : Type 0 where
  pub few : length slaves ≤ MOST_SLAVES
  pub bounded : All AreBounded slaves
  pub lists : (task : ℕ) → IsTaskList (list_by task slaves)

-- a task's areas, and their boundaries without END

-- a task's areas as a tree stores them, by the areas of the slaves
abbrev pub tree_by : ℕ → AreaLine → Tree
tree_by task slaves = record { slaves = length slaves; list = list_by task slaves }

-- the keys at which a task's datagrams begin; the first is START
abbrev pub starts_by : ℕ → AreaLine → List Key
starts_by task slaves = START ∷ later_keys (list_by task slaves)

-- the areas and the boundaries of a task
abbrev pub both_task_cuts : ℕ → AreaLine → TaskCuts
both_task_cuts task slaves = record { tree = tree_by task slaves; starts = starts_by task slaves }

-- the areas and the boundaries of `count` tasks from one on
abbrev pub task_cuts_from : ℕ → ℕ → AreaLine → List TaskCuts
task_cuts_from zero task slaves = []
task_cuts_from (suc count) task slaves = both_task_cuts task slaves ∷ task_cuts_from count (task + 1) slaves

-- the eight tasks of a line
abbrev pub line_cuts : AreaLine → List TaskCuts
line_cuts slaves = task_cuts_from 8 0 slaves

-- a task needs more than 16 datagrams
abbrev pub is_over_limit : ℕ → AreaLine → Bool
is_over_limit task slaves = nat_lt MOST_DATAGRAMS (datagram_count (packed empty_front (list_by task slaves)))

-- the first of `count` tasks that needs more than 16 datagrams
abbrev pub over_limit_from : ℕ → ℕ → AreaLine → Option ℕ
over_limit_from zero task slaves = None
over_limit_from (suc count) task slaves = if is_over_limit task slaves then Some task else over_limit_from count (task + 1) slaves

-- the boundaries of a task are its areas'
abbrev pub IsCut : TaskCuts → Type 0
IsCut cuts = cuts.starts ++ END ∷ [] ≡ boundaries cuts.tree.list
