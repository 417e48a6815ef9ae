use Rattle.std.proofs.Common.{length}
use Rattle.hc_c.proofs.arriving.+put_outcomes.Given as goal

abbrev pub decreases-put_outcomes : goal.decreases-put_outcomes
decreases-put_outcomes l = length l.outcomes.now
