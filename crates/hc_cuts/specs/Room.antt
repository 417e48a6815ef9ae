-- The tasks of a line that gets more slaves after its own.
use Rattle.std.specs.Prelude.{◌≡◌, ℕ, ◌≤◌, List, [], ◌++◌, length, replicate}
use Rattle.hc_bitsum.specs.Tree.{HasRoom}
use Rattle.hc_cuts.specs.Starts.{TaskCuts}
use Rattle.hc_cuts.specs.TaskCuts.{line_cuts}
use Rattle.hc_cuts.specs.Areas.{AreaLine}

-- the line with `count` more slaves after its own, which have no areas, as those of a group that is not present
abbrev pub with_absent : ℕ → AreaLine → AreaLine
with_absent count line = line ++ replicate count []

-- the tasks are those of a line of at most so many slaves
pub record AreOfFewer (tasks : List TaskCuts) (slaves : ℕ) : Type 0 where
  pub line : AreaLine
  pub of_line : tasks ≡ line_cuts line
  pub few : length line ≤ slaves

-- the tasks are those of a line of at most this many slaves, and trees of as many slaves as the line has have the capacity for
-- this many
pub record TreesCanAdmit (tasks : List TaskCuts) (slaves : ℕ) : Type 0 where
  pub fewer : AreOfFewer tasks slaves
  pub room : HasRoom (length fewer.line) slaves

-- a task has at most this many slaves, and its tree has the capacity for them
pub record HasRoomFor (slaves : ℕ) (cuts : TaskCuts) : Type 0 where
  pub few : cuts.tree.slaves ≤ slaves
  pub room : HasRoom cuts.tree.slaves slaves
