-- The station addresses of a line's slaves, at the front of a list, when slaves are connected or disconnected.
use Rattle.std.specs.Prelude.{◌≡◌, ℕ, ◌+◌, ◌-◌, List, ◌++◌, drop, length, sum_by, take}
use Rattle.hc_records.specs.declared.records.Declared.{Declared}
use Rattle.hc_groups.specs.declared.line.Stretch.{Stretch}
use Rattle.hc_groups.specs.Index.{present_count}

-- the slaves that the group with a number has in the line are a stretch of it
pub record IsStretchOf (groups : List Declared) (group : ℕ) (stretch : Stretch) : Type 0 where
  pub position : stretch.position ≡ sum_by present_count (take group groups)
  pub own : stretch.position + stretch.own ≡ sum_by present_count (take (group + 1) groups)
  pub line : stretch.line ≡ sum_by present_count groups

-- other slaves replace those of a stretch, and the slaves of the line after it follow
pub record IsReplaced (stretch : Stretch) (stations old new : List ℕ) : Type 0 where
  pub long : length new ≡ length old
  pub front : take (stretch.line - stretch.own + length stations) new ≡ take stretch.position old ++ (stations ++ drop (stretch.position + stretch.own) (take stretch.line old))
