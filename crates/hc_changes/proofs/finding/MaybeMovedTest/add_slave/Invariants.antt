use Rattle.std.proofs.Common.{◌≡◌, ◌++◌, drop}
use Rattle.hc_cuts.specs.Areas.{areas_of_rank, areas_by_rank}
use Rattle.hc_changes.specs.inner.Found.{areas_found}
use Rattle.hc_changes.proofs.finding.MaybeMovedTest.add_slave.Given as goal

-- the candidates so far, and those among the areas that are left, are all
abbrev pub invariant-loop-i : goal.invariant-loop-i
invariant-loop-i l = record {
  places : l.places ≡ l.fn.places;
  areas : l.areas ≡ areas_of_rank (areas_by_rank l.self.new) l.rank;
  found : l.found.items ++ areas_found l.self l.slave.station l.rank l.i (drop l.i l.areas) ≡ l.fn.found.items ++ areas_found l.self l.slave.station l.rank 0 l.areas;
}
