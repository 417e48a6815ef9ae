use Rattle.std.proofs.Common.{rules}
use Rattle.hc_plan.proofs.lemmas.Replaced.{length-filled}
use Rattle.hc_plan.proofs.register_blocks.RegisterBlocks.clear.Goals as goal

pub set_block-requires : goal.set_block-requires
set_block-requires c = search (rules, length-filled)
