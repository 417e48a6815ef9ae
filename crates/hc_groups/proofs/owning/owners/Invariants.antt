use Rattle.std.proofs.Common.{◌≡◌, ◌++◌, drop}
use Rattle.hc_groups.specs.Index.{owners_from}
use Rattle.hc_groups.proofs.owning.owners.Given as goal

abbrev pub invariant-loop-declared : goal.invariant-loop-declared
invariant-loop-declared l = (l.all.items ++ owners_from l.group (drop l.declared-index l.groups) ≡ owners_from 0 l.groups) × (l.group ≡ l.declared-index)
