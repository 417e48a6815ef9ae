use Rattle.std.proofs.Common.{◌≡◌, ◌++◌, drop}
use Rattle.hc_records.specs.Project.{entry_names}
use Rattle.hc_records.proofs.conditions.names.add_entry_names.Given as goal

-- the variables found, and those of what is left, are all
abbrev pub invariant-loop-entry : goal.invariant-loop-entry
invariant-loop-entry l = l.names.items ++ entry_names (drop l.entry-index l.entries) ≡ l.initial.names.items ++ entry_names l.entries
