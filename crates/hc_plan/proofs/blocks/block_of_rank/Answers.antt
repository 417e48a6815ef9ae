use Rattle.std.proofs.Common.{◌∙◌, None, Some, sym, ap}
use Rattle.hc_records.specs.declared.records.Slave.{Slave}
use Rattle.hc_plan.proofs.LookUps.{of_slave, stored-ranked}
use Rattle.hc_plan.proofs.blocks.block_of_rank.Goals as goal

pub returns-in_err-block : goal.returns-in_err-block
returns-in_err-block c =
    c.from_residual-in_err-block.ensures
    ∙ stored-ranked c.args.groups.now c.args.blocks.now c.args.rank c.in_ok-slave.slave c.rank.result c.args.number None c.requires (sym c.in_ok-slave.ensures) c.rank.ensures
    (c.in_err-block.ensures.low, c.in_err-block.ensures.high)

pub returns : goal.returns
returns c =
    ap (λ (slave : Slave). Some (of_slave slave.station c.args.number c.in_ok-block.block)) c.slave.ensures
    ∙ stored-ranked c.args.groups.now c.args.blocks.now c.args.rank c.in_ok-slave.slave c.rank.result c.args.number (Some c.in_ok-block.block) c.requires (sym c.in_ok-slave.ensures) c.rank.ensures
    (c.in_ok-block.ensures.low, c.in_ok-block.ensures.high)
