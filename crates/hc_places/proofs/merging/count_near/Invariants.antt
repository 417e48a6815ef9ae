use Rattle.std.proofs.Common.{◌-◌, ◌≤◌, ◌<◌, length}
use Rattle.hc_places.proofs.merging.count_near.Given as goal

-- the reach stays within the rows, and isn't 0
abbrev pub invariant-loop-reach : goal.invariant-loop-reach
invariant-loop-reach l = record {
  within : l.reach ≤ length l.rows;
  some : 0 < l.reach;
}

abbrev pub decreases-loop-reach : goal.decreases-loop-reach
decreases-loop-reach l = length l.rows - l.reach
