use Rattle.std.proofs.Common.{length}
use Rattle.hc_segment.proofs.line.+write_in.Given as goal

abbrev pub decreases-write_in : goal.decreases-write_in
decreases-write_in l = length l.segments.now
