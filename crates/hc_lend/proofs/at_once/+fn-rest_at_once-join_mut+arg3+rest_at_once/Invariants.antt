use Rattle.std.proofs.Common.{◌+◌, ◌*◌, length}
use Rattle.hc_lend.proofs.at_once.+fn-rest_at_once-join_mut+arg3+rest_at_once.Given as goal

abbrev pub decreases-rest_at_once : goal.decreases-rest_at_once
decreases-rest_at_once g l = 2 * length l.lengths.now

abbrev pub decreases-join_mut+arg3 : goal.decreases-join_mut+arg3
decreases-join_mut+arg3 g l = 2 * length l.lengths.now + 1
