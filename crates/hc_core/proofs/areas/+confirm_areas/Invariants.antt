use Rattle.std.proofs.Common.{length}
use Rattle.hc_core.proofs.areas.+confirm_areas.Given as goal

abbrev pub decreases-confirm_areas : goal.decreases-confirm_areas
decreases-confirm_areas l = length l.blocks.now
