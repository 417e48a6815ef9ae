use Rattle.std.proofs.Common.{◌≡◌}
use Rattle.hc_owed.specs.Steps.{places_emptied}
use Rattle.hc_owed.proofs.owed.Owed.clear.Given as goal

abbrev pub invariant-loop-i : goal.invariant-loop-i
invariant-loop-i l = l.self ≡ places_emptied l.from l.i l.fn.self
