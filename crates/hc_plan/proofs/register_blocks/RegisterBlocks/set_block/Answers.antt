use Rattle.std.proofs.Common.{rules}
use Rattle.hc_plan.proofs.lemmas.Replaced.{set-changed}
use Rattle.hc_plan.proofs.register_blocks.RegisterBlocks.set_block.Goals as goal

pub returns : goal.returns
returns c = search (rules, set-changed)
