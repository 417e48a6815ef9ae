use Rattle.std.proofs.Common.{◌≡◌, ◌++◌, drop}
use Rattle.hc_records.specs.Project.{entry_names}
use Rattle.hc_changes.proofs.rows.add_entry_variables.Given as goal

abbrev pub invariant-loop-entry : goal.invariant-loop-entry
invariant-loop-entry l = l.variables.items ++ entry_names (drop l.entry-index l.entries) ≡ l.fn.variables.items ++ entry_names l.entries
