use Rattle.std.proofs.Common.{◌≡◌}
use Rattle.hc_conductor.specs.Conducting.{conductor_origin}
use Rattle.worked_conductor.proofs.lines.are_written.Given as goal

abbrev pub invariant-loop : goal.invariant-loop
invariant-loop l = conductor_origin l.conductor ≡ conductor_origin l.initial.conductor
