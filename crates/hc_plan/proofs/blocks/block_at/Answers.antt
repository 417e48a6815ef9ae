use Rattle.std.proofs.Common.{sym}
use Rattle.hc_plan.proofs.LookUps.{stored-at}
use Rattle.hc_plan.proofs.blocks.block_at.Goals as goal

pub returns : goal.returns
returns c =
    stored-at c.args.groups.now c.args.blocks.now c.args.station c.in_ok-slave.slave c.rank.result c.args.number c.of_slave.result c.requires (sym c.in_ok-slave.ensures) c.rank.ensures
    (c.of_slave.ensures.low, c.of_slave.ensures.high)
