use Rattle.std.proofs.Common.{length}
use Rattle.hc_c.proofs.counting.Counts.+count_datagrams.Given as goal

abbrev pub decreases-count_datagrams : goal.decreases-count_datagrams
decreases-count_datagrams l = length l.datagrams.now
