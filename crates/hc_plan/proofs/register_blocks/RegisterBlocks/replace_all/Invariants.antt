use Rattle.std.proofs.Common.{◌≡◌, drop, length}
use Rattle.hc_plan.specs.inner.RegisterBlocks.{with_all_moved}
use Rattle.hc_plan.proofs.register_blocks.RegisterBlocks.replace_all.Given as goal

-- the blocks that are left are to be stored over those so far
abbrev pub invariant-loop-block : goal.invariant-loop-block
invariant-loop-block l = (with_all_moved (drop l.block-index l.moved) l.self ≡ with_all_moved l.moved l.fn.self) × (length l.self ≡ length l.fn.self)
