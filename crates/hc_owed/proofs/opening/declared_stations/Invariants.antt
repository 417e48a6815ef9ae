use Rattle.std.proofs.Common.{◌≡◌, ◌++◌, drop, map}
use Rattle.hc_records.specs.Line.{groups_of}
use Rattle.hc_records.specs.Project.{slaves_of}
use Rattle.hc_owed.proofs.opening.declared_stations.Given as goal

abbrev pub invariant-loop-declared : goal.invariant-loop-declared
invariant-loop-declared l =
    l.stations.items ++ map (λ slave. slave.station) (slaves_of (groups_of (drop l.declared-index l.groups))) ≡ map (λ slave. slave.station) (slaves_of (groups_of l.groups))
