use Rattle.std.proofs.Common.{◌≡◌, ◌++◌, drop}
use Rattle.hc_changes.specs.Rows.{moved_rows}
use Rattle.hc_changes.proofs.rows.add_moved.Given as goal

abbrev pub invariant-loop-row : goal.invariant-loop-row
invariant-loop-row l = l.rows.items ++ moved_rows l.old (drop l.row-index l.found) ≡ l.fn.rows.items ++ moved_rows l.old l.found
