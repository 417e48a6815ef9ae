use Rattle.std.proofs.Common.{length}
use Rattle.hc_core.proofs.areas.+mark_areas.Given as goal

abbrev pub decreases-mark_areas : goal.decreases-mark_areas
decreases-mark_areas l = length l.blocks.now
