use Rattle.std.proofs.Common.{◌≡◌, ◌++◌, drop}
use Rattle.hc_records.specs.Project.{slave_names}
use Rattle.hc_records.proofs.conditions.names.add_slave_names.Given as goal

-- the variables found, and those of what is left, are all
abbrev pub invariant-loop-slave : goal.invariant-loop-slave
invariant-loop-slave l = l.names.items ++ slave_names (drop l.slave-index l.slaves) ≡ l.initial.names.items ++ slave_names l.slaves
