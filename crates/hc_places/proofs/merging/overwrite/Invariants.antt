use Rattle.std.proofs.Common.{◌≡◌, ◌≤◌, drop, length}
use Rattle.hc_places.specs.inner.Overwritten.{rows_overwritten}
use Rattle.hc_places.specs.Table.{RowsAscend}
use Rattle.hc_places.proofs.Reached.{AreLower}
use Rattle.hc_places.proofs.merging.overwrite.Given as goal

-- the rows so far, overwritten with what is left, are all; those in front are lower than the changes that are left
abbrev pub invariant-loop-change : goal.invariant-loop-change
invariant-loop-change l = record {
  is : rows_overwritten (drop l.change-index l.changed) l.rows.items ≡ rows_overwritten l.changed l.initial.rows.items;
  ascends : RowsAscend l.rows.items;
  within : l.front ≤ length l.rows.items;
  lower : AreLower l.rows.items l.front l.changed l.change-index;
}
