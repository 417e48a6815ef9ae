use Rattle.std.proofs.Common.{None}
use Rattle.hc_c.proofs.Lookers.{replicate-one-more}
use Rattle.hc_c.proofs.seat.lookers.Lookers.new.Goals as goal

pub loop-init : goal.loop-init
loop-init c = c.in_ok-ends.ensures.items

pub loop-preserved : goal.loop-preserved
loop-preserved c = rw (c.in_ok-push.ensures.items, c.loop.invariant) (replicate-one-more None c.loop.counter)
