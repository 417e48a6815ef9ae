use Rattle.std.proofs.Common.{length}
use Rattle.worked_conductor.proofs.joined.+posted.Given as goal

abbrev pub decreases-posted : goal.decreases-posted
decreases-posted l = length l.seats.now
