use Rattle.std.proofs.Common.{◌≡◌}
use Rattle.hc_conductor.proofs.publishing.give_back.Given as goal

abbrev pub invariant-loop : goal.invariant-loop
invariant-loop l = l.core ≡ l.initial.core
