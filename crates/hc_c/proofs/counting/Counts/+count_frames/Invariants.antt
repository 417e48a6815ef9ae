use Rattle.std.proofs.Common.{length}
use Rattle.hc_c.proofs.counting.Counts.+count_frames.Given as goal

abbrev pub decreases-count_frames : goal.decreases-count_frames
decreases-count_frames l = length l.frames.now
