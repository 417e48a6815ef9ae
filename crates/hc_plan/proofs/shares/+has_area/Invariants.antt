use Rattle.std.proofs.Common.{length}
use Rattle.hc_plan.proofs.shares.+has_area.Given as goal

abbrev pub decreases-has_area : goal.decreases-has_area
decreases-has_area l = length l.areas.now
