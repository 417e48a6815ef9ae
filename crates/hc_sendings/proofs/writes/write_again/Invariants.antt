use Rattle.std.proofs.Common.{◌≡◌, ◌++◌, drop, map, take}
use Rattle.hc_sendings.specs.Waiting.{awaited_block, written_again}
use Rattle.hc_sendings.proofs.writes.write_again.Given as goal

abbrev pub invariant-loop-block : goal.invariant-loop-block
invariant-loop-block l = l.blocks ≡ map (written_again (map awaited_block l.again)) (take l.block-index l.fn.blocks) ++ drop l.block-index l.fn.blocks
