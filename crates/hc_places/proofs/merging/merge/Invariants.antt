use Rattle.std.proofs.Common.{◌≡◌, ◌+◌, ◌≤◌, ◌++◌, length}
use Rattle.std.specs.Prelude.{vec_capacity}
use Rattle.hc_places.specs.inner.Walk.{merges, walked}
use Rattle.hc_places.proofs.merging.merge.Given as goal

-- what is added so far, and the changes and rows that are left, merged, are all, and find room in the memory given
abbrev pub invariant-loop-changes : goal.invariant-loop-changes
invariant-loop-changes l = record {
  is : l.rows.items ++ walked merges l.before l.changes ≡ walked merges l.old l.changed;
  room : length (walked merges l.old l.changed) ≤ vec_capacity l.rows;
  capacity : vec_capacity l.rows ≡ vec_capacity l.fn.into;
}

abbrev pub decreases-loop-changes : goal.decreases-loop-changes
decreases-loop-changes l = length l.changes + length l.before
