use Rattle.std.proofs.Common.{◌≡◌, ◌++◌, drop}
use Rattle.hc_records.specs.Project.{slave_names, slaves_of}
use Rattle.hc_records.proofs.conditions.names.repeats_variable.Given as goal

-- the variables found, and those of what is left, are all
abbrev pub invariant-loop-group : goal.invariant-loop-group
invariant-loop-group l = l.names.items ++ slave_names (slaves_of (drop l.group-index l.groups)) ≡ slave_names (slaves_of l.groups)
