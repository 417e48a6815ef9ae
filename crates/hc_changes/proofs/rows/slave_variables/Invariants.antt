use Rattle.std.proofs.Common.{◌≡◌, ◌++◌, drop}
use Rattle.hc_changes.specs.Rows.{assigned_variables}
use Rattle.hc_changes.proofs.rows.slave_variables.Given as goal

abbrev pub invariant-loop-area : goal.invariant-loop-area
invariant-loop-area l = l.variables.items ++ assigned_variables (drop l.area-index l.areas) ≡ assigned_variables l.areas
