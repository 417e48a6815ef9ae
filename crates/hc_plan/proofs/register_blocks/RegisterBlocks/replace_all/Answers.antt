use Rattle.std.proofs.Common.{rules}
use Rattle.hc_plan.proofs.lemmas.Replaced.{item-cons, length-changed}
use Rattle.hc_plan.proofs.register_blocks.RegisterBlocks.replace_all.Goals as goal

pub loop-block-preserved : goal.loop-block-preserved
loop-block-preserved c = search (rules, item-cons, length-changed)
