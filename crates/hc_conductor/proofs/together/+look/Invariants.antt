use Rattle.std.proofs.Common.{length}
use Rattle.hc_conductor.proofs.together.+look.Given as goal

abbrev pub decreases-look : goal.decreases-look
decreases-look l = length l.rings.now
