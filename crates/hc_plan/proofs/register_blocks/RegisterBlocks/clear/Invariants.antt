use Rattle.std.proofs.Common.{◌≡◌, None}
use Rattle.hc_plan.specs.RegisterBlocks.{replaced_from}
use Rattle.hc_plan.proofs.register_blocks.RegisterBlocks.clear.Given as goal

abbrev pub invariant-loop-i : goal.invariant-loop-i
invariant-loop-i l = l.self ≡ replaced_from l.from l.i None l.fn.self
