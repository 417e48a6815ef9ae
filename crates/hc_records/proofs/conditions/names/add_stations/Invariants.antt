use Rattle.std.proofs.Common.{◌≡◌, ◌++◌, map, take}
use Rattle.hc_records.proofs.conditions.names.add_stations.Given as goal

abbrev pub invariant-loop-slave : goal.invariant-loop-slave
invariant-loop-slave l = l.stations.items ≡ l.initial.stations.items ++ map (λ slave. slave.station) (take l.slave-index l.slaves)
