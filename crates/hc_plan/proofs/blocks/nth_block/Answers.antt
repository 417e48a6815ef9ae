use Rattle.std.proofs.Common.{◌∙◌, None, Some, sym, ap}
use Rattle.hc_records.specs.declared.records.Slave.{Slave}
use Rattle.hc_plan.specs.Configuration.{at_station}
use Rattle.hc_plan.proofs.LineBlocks.{owned-none}
use Rattle.hc_plan.proofs.LookUps.{stored-nth}
use Rattle.hc_plan.proofs.blocks.nth_block.Goals as goal

pub returns-in_err-owner : goal.returns-in_err-owner
returns-in_err-owner c = c.from_residual.ensures ∙ sym (owned-none c.args.groups.now c.args.n (sym c.block_owner.ensures ∙ c.in_err-owner.was))

pub returns-in_err-block : goal.returns-in_err-block
returns-in_err-block c =
    c.from_residual-in_err-block.ensures
    ∙ stored-nth c.args.groups.now c.args.blocks.now c.args.n c.in_ok-owner.owner c.rank.result c.in_ok-owner.number None c.requires (sym c.block_owner.ensures ∙ c.in_ok-owner.was) c.rank.ensures
    (c.in_err-block.ensures.low, c.in_err-block.ensures.high)

pub returns : goal.returns
returns c =
    ap (λ (slave : Slave). Some (at_station slave.station c.in_ok-block.block)) c.slave.ensures
    ∙ stored-nth c.args.groups.now c.args.blocks.now c.args.n c.in_ok-owner.owner c.rank.result c.in_ok-owner.number (Some c.in_ok-block.block) c.requires (sym c.block_owner.ensures ∙ c.in_ok-owner.was) c.rank.ensures
    (c.in_ok-block.ensures.low, c.in_ok-block.ensures.high)
