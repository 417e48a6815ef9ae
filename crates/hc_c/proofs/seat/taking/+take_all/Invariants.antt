use Rattle.std.proofs.Common.{length}
use Rattle.hc_c.proofs.seat.taking.+take_all.Given as goal

abbrev pub decreases-take_all : goal.decreases-take_all
decreases-take_all l = length l.ends.now
