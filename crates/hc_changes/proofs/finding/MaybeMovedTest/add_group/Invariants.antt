use Rattle.std.proofs.Common.{◌≡◌, ◌+◌}
use Rattle.hc_changes.specs.inner.Found.{found_below}
use Rattle.hc_changes.proofs.finding.MaybeMovedTest.add_group.Given as goal

-- the candidates of the slaves so far
abbrev pub invariant-loop-i : goal.invariant-loop-i
invariant-loop-i l = record {
  places : l.places ≡ l.fn.places;
  found : l.found.items ≡ found_below l.self (l.first + l.i);
}
