use Rattle.std.proofs.Common.{◌≡◌, ◌++◌, drop}
use Rattle.hc_groups.specs.Index.{stations}
use Rattle.hc_groups.proofs.line.add_stations.Given as goal

abbrev pub invariant-loop-slave : goal.invariant-loop-slave
invariant-loop-slave l = l.all.items ++ stations (drop l.slave-index l.slaves) ≡ l.initial.all.items ++ stations l.slaves
