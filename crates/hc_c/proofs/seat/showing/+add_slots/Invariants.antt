use Rattle.std.proofs.Common.{length}
use Rattle.hc_c.proofs.seat.showing.+add_slots.Given as goal

abbrev pub decreases-add_slots : goal.decreases-add_slots
decreases-add_slots l = length l.datagrams.now
