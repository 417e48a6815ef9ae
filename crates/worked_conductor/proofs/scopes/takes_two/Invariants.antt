use Rattle.std.proofs.Common.{◌≡◌}
use Rattle.hc_conductor.specs.Conducting.{conductor_origin}
use Rattle.worked_conductor.proofs.scopes.takes_two.Given as goal

-- the conductor is the one that it was
abbrev pub invariant-loop : goal.invariant-loop
invariant-loop l = conductor_origin l.conductor ≡ conductor_origin l.fn.conductor
