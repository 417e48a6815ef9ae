use Rattle.std.proofs.Common.{◌≡◌, ◌-◌}
use Rattle.hc_owed.specs.Areas.{area_after}
use Rattle.hc_owed.specs.ReadinessSteps.{changed_from}
use Rattle.hc_owed.proofs.readiness.Readiness.turn.Given as goal

-- the areas before the present one are changed
abbrev pub invariant-loop-n : goal.invariant-loop-n
invariant-loop-n l = l.self ≡ changed_from (area_after l.turn) l.from (l.n - l.from) l.fn.self
