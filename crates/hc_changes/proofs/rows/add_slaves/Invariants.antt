use Rattle.std.proofs.Common.{◌≡◌, ◌++◌, drop}
use Rattle.hc_changes.specs.Rows.{gone_rows}
use Rattle.hc_changes.proofs.rows.add_slaves.Given as goal

-- the rows so far, and those of the slaves that are left, are all
abbrev pub invariant-loop-i : goal.invariant-loop-i
invariant-loop-i l =
    l.rows.items ++ gone_rows (record l.change { areas_before = drop l.i l.change.areas_before; areas_after = drop l.i l.change.areas_after }) ≡ l.fn.rows.items ++ gone_rows l.change
