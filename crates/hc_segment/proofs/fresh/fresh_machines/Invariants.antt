use Rattle.std.proofs.Common.{◌≡◌, ◌++◌, drop}
use Rattle.hc_segment.specs.Machines.{fresh_from}
use Rattle.hc_segment.proofs.fresh.fresh_machines.Given as goal

abbrev pub invariant-loop-slave : goal.invariant-loop-slave
invariant-loop-slave l = l.machines.items ++ fresh_from l.alias (drop l._slave-index l._slave-items) ≡ fresh_from l.fn.group.alias l._slave-items
