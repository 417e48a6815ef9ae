use Rattle.std.proofs.Common.{arith}
use Rattle.hc_cuts.proofs.Taking.{areas-all, areas-taken}
use Rattle.hc_cuts.proofs.touched.touch_slave.Goals as goal

pub loop-area-preserved : goal.loop-area-preserved
loop-area-preserved c =
    areas-taken c.args.task c.args.rank c.loop-area.area c.args.old.now c.args.new.now c.args.hulls.now c.loop-area.hulls c.touch_area.new.hulls
    c.loop-area.invariant c.touch_area.ensures

pub returns : goal.returns
returns c =
    let end = c.max-area-end.ensures in
    let history = c.loop-area-test.false in
    areas-all c.args.task c.args.rank c.loop-area.area c.args.old.now c.args.new.now c.args.hulls.now c.loop-area.hulls (omega arith) (omega arith)
    c.loop-area.invariant
