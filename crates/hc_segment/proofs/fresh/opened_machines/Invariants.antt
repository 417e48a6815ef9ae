use Rattle.std.proofs.Common.{◌≡◌, ◌++◌, drop}
use Rattle.hc_segment.specs.Machines.{opened_machines}
use Rattle.hc_segment.proofs.fresh.opened_machines.Given as goal

abbrev pub invariant-loop-declared : goal.invariant-loop-declared
invariant-loop-declared l = l.machines.items ++ opened_machines (drop l.declared-index l.groups) ≡ opened_machines l.groups
