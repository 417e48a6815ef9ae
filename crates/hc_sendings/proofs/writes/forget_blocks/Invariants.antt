use Rattle.std.proofs.Common.{◌≡◌, ◌++◌, drop, map, take}
use Rattle.hc_sendings.specs.Waiting.{block_forgotten}
use Rattle.hc_sendings.proofs.writes.forget_blocks.Given as goal

abbrev pub invariant-loop-block : goal.invariant-loop-block
invariant-loop-block l = l.blocks ≡ map (block_forgotten l.station) (take l.block-index l.fn.blocks) ++ drop l.block-index l.fn.blocks
