use Rattle.std.proofs.Common.{◌≡◌, map}
use Rattle.std.specs.List.{range_with_len}
use Rattle.hc_owed.specs.Readiness.{judged_at, none_unplugged, unknown_registers}
use Rattle.hc_owed.specs.RegisterState.{nothing_known}
use Rattle.hc_owed.proofs.readiness.Readiness.new.Given as goal

-- the areas so far are those of the first indices
abbrev pub invariant-loop-n : goal.invariant-loop-n
invariant-loop-n l = l.readiness ≡ map (judged_at nothing_known unknown_registers none_unplugged l.fn.plan) (range_with_len 0 l.n)
