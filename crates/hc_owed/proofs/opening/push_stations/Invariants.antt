use Rattle.std.proofs.Common.{◌≡◌, ◌++◌, drop, map}
use Rattle.hc_owed.proofs.opening.push_stations.Given as goal

abbrev pub invariant-loop-slave : goal.invariant-loop-slave
invariant-loop-slave l = l.stations.items ++ map (λ slave. slave.station) (drop l.slave-index l.slaves) ≡ l.fn.stations.items ++ map (λ slave. slave.station) l.slaves
