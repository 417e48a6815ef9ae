use Rattle.std.proofs.Common.{◌+◌, ◌*◌, length}
use Rattle.hc_segment.proofs.flow.+flow+fn-flow-join_mut+arg2.Given as goal

abbrev pub decreases-flow : goal.decreases-flow
decreases-flow g l = 2 * length l.segments.now

abbrev pub decreases-join_mut+arg2 : goal.decreases-join_mut+arg2
decreases-join_mut+arg2 g l = 2 * length l.rest.now + 1
