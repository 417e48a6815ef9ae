use Rattle.std.proofs.Common.{◌≡◌, ◌++◌, drop}
use Rattle.hc_groups.specs.Index.{variables}
use Rattle.hc_groups.proofs.variables.declared_variables.Given as goal

-- the variables found, and those of what is left, are all
abbrev pub invariant-loop-declared : goal.invariant-loop-declared
invariant-loop-declared l = l.all.items ++ variables (drop l.declared-index l.groups) ≡ variables l.groups
