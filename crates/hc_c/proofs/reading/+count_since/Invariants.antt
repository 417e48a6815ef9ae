use Rattle.std.proofs.Common.{length}
use Rattle.hc_c.proofs.reading.+count_since.Given as goal

abbrev pub decreases-count_since : goal.decreases-count_since
decreases-count_since l = length l.datagrams.now
