use Rattle.std.proofs.Common.{◌≡◌, take}
use Rattle.hc_plan.specs.RegisterBlocks.{blocks_by_rank}
use Rattle.hc_plan.proofs.register_blocks.RegisterBlocks.open.Given as goal

-- the blocks so far are those of the first places
abbrev pub invariant-loop-place : goal.invariant-loop-place
invariant-loop-place l = l.places.items ≡ take l.place (blocks_by_rank l.fn.groups)
