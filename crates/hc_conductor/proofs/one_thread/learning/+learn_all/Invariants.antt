use Rattle.std.proofs.Common.{length}
use Rattle.hc_conductor.proofs.one_thread.learning.+learn_all.Given as goal

abbrev pub decreases-learn_all : goal.decreases-learn_all
decreases-learn_all l = length l.seats.now
