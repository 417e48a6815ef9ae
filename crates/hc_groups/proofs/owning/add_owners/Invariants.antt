use Rattle.std.proofs.Common.{◌≡◌, ◌++◌, drop, map}
use Rattle.hc_records.specs.declared.records.Slave.{Slave}
use Rattle.hc_groups.proofs.owning.add_owners.Given as goal

abbrev pub invariant-loop-slave : goal.invariant-loop-slave
invariant-loop-slave l =
    l.all.items ++ map (λ (_ : Slave). l.group) (drop l._slave-index l.slaves) ≡ l.initial.all.items ++ map (λ (_ : Slave). l.group) l.slaves
