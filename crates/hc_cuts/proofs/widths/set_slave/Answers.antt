use Rattle.std.proofs.Common.{arith}
use Rattle.hc_cuts.proofs.Setting.{areas-end, areas-go}
use Rattle.hc_cuts.proofs.widths.set_slave.Goals as goal

pub loop-area-preserved : goal.loop-area-preserved
loop-area-preserved c =
    areas-go c.args.task c.args.rank c.loop-area.area c.args.new.now c.args.cuts.now c.loop-area.cuts c.set_area.new.cuts c.loop-area.invariant c.set_area.ensures

pub returns : goal.returns
returns c =
    let end = c.max-area-end.ensures in
    let history = c.loop-area-test.false in
    areas-end c.args.task c.args.rank c.loop-area.area c.args.old.now c.args.new.now c.args.cuts.now c.loop-area.cuts (omega arith) (omega arith) c.requires.was
    c.loop-area.invariant
