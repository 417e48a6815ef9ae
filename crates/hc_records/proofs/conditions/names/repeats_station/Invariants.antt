use Rattle.std.proofs.Common.{◌≡◌, ◌++◌, map, drop}
use Rattle.hc_records.specs.Project.{slaves_of}
use Rattle.hc_records.proofs.conditions.names.repeats_station.Given as goal

-- the stations found, and those of what is left, are all
abbrev pub invariant-loop-group : goal.invariant-loop-group
invariant-loop-group l =
    l.stations.items ++ map (λ slave. slave.station) (slaves_of (drop l.group-index l.groups)) ≡ map (λ slave. slave.station) (slaves_of l.groups)
