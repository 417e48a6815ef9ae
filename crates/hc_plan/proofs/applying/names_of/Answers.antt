use Rattle.std.proofs.Common.{◌∙◌, append-nil, sym}
use Rattle.std.proofs.lemmas.List.{drop_all}
use Rattle.hc_plan.proofs.applying.names_of.Goals as goal

pub returns : goal.returns
returns c = sym (append-nil c.loop-block.names.items) ∙ rw (drop_all c.loop-block.block-index c.args.blocks.now c.loop-block-test.false) at c.loop-block.invariant
