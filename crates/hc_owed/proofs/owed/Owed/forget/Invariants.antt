use Rattle.std.proofs.Common.{◌≡◌}
use Rattle.hc_owed.specs.Steps.{forgotten_below}
use Rattle.hc_owed.proofs.owed.Owed.forget.Given as goal

abbrev pub invariant-loop-place : goal.invariant-loop-place
invariant-loop-place l = l.self ≡ forgotten_below l.station l.place l.fn.self
