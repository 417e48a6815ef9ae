use Rattle.std.proofs.Common.{length}
use Rattle.hc_c.proofs.seat.viewing.+put_serials.Given as goal

abbrev pub decreases-put_serials : goal.decreases-put_serials
decreases-put_serials l = length l.serials.now
