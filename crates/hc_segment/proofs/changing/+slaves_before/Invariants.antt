use Rattle.std.proofs.Common.{length}
use Rattle.hc_segment.proofs.changing.+slaves_before.Given as goal

abbrev pub decreases-slaves_before : goal.decreases-slaves_before
decreases-slaves_before l = length l.groups.now
