use Rattle.hc_groups.proofs.LineLists.{IsWrittenUpTo}
use Rattle.hc_groups.proofs.line.write_stations.Given as goal

abbrev pub invariant-loop-i : goal.invariant-loop-i
invariant-loop-i l = IsWrittenUpTo l.fn.list l.list l.position l.slaves l.i
