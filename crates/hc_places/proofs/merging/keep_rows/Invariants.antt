use Rattle.std.proofs.Common.{◌≤◌, length, take}
use Rattle.hc_places.specs.Swap.{KeepRows}
use Rattle.hc_places.proofs.Reached.{AreLower}
use Rattle.hc_places.proofs.merging.keep_rows.Given as goal

-- the rows in front are lower than the changes that are left, and those so far keep their rows
abbrev pub invariant-loop-change : goal.invariant-loop-change
invariant-loop-change l = record {
  within : l.front ≤ length l.rows;
  lower : AreLower l.rows l.front l.changed l.change-index;
  unchanged : KeepRows l.rows (take l.change-index l.changed);
}
