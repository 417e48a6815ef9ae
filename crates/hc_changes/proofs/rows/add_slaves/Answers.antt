use Rattle.std.proofs.Common.{arith}
use Rattle.hc_changes.proofs.Adding.{gone-added, gone-end}
use Rattle.hc_changes.proofs.rows.add_slaves.Goals as goal

pub loop-i-preserved : goal.loop-i-preserved
loop-i-preserved c =
    let change = c.args.change.now in
    let within = c.loop-i-test.true in
    let many = c.slaves-i-end.ensures.count in
    gone-added change c.loop-i.i c.loop-i.rows.items c.add_slave.new.rows.items _ (omega (arith, within, many)) c.slaves-i-end.ensures.same
    (rw (← c.areas_before.ensures, ← c.areas_after.ensures) c.in_ok-add_slave.ensures) c.loop-i.invariant

pub returns : goal.returns
returns c =
    let history = c.loop-i-test.false in
    let many = c.slaves-i-end.ensures.count in
    gone-end c.args.change.now c.loop-i.i c.loop-i.rows.items _ (omega (arith, history, many)) c.loop-i.invariant
