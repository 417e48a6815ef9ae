use Rattle.std.proofs.Common.{length}
use Rattle.hc_c.proofs.reading.+mask.Given as goal

abbrev pub decreases-mask : goal.decreases-mask
decreases-mask l = length l.datagrams.now
