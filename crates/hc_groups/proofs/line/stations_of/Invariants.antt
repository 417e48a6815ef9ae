use Rattle.std.proofs.Common.{◌≡◌, ◌++◌, drop}
use Rattle.hc_groups.specs.Index.{line_stations}
use Rattle.hc_groups.proofs.line.stations_of.Given as goal

abbrev pub invariant-loop-declared : goal.invariant-loop-declared
invariant-loop-declared l = l.all.items ++ line_stations (drop l.declared-index l.groups) ≡ line_stations l.groups
