use Rattle.std.proofs.Common.{◌≡◌, ◌++◌, drop}
use Rattle.std.specs.List.{flat_map}
use Rattle.hc_plan.specs.inner.MovedBlocks.{blocks_moved}
use Rattle.hc_plan.proofs.moved_blocks.moved_blocks.Given as goal

-- the blocks so far, and those of the candidates that are left, are all
abbrev pub invariant-loop-candidate : goal.invariant-loop-candidate
invariant-loop-candidate l = l.blocks.items ++ flat_map (blocks_moved l.stored) (drop l.candidate-index l.candidates) ≡ flat_map (blocks_moved l.stored) l.candidates
