use Rattle.std.proofs.Common.{length}
use Rattle.hc_c.proofs.reading.+image_size.Given as goal

abbrev pub decreases-image_size : goal.decreases-image_size
decreases-image_size l = length l.datagrams.now
