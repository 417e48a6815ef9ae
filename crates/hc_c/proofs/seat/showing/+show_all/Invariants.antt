use Rattle.std.proofs.Common.{length}
use Rattle.hc_c.proofs.seat.showing.+show_all.Given as goal

abbrev pub decreases-show_all : goal.decreases-show_all
decreases-show_all l = length l.ends.now
