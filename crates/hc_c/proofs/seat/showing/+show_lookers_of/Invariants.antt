use Rattle.std.proofs.Common.{length}
use Rattle.hc_c.proofs.seat.showing.+show_lookers_of.Given as goal

abbrev pub decreases-show_lookers_of : goal.decreases-show_lookers_of
decreases-show_lookers_of l = length l.ends.now
