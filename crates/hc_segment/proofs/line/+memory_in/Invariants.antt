use Rattle.std.proofs.Common.{length}
use Rattle.hc_segment.proofs.line.+memory_in.Given as goal

abbrev pub decreases-memory_in : goal.decreases-memory_in
decreases-memory_in l = length l.segments.now
