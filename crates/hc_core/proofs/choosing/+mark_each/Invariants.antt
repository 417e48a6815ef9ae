use Rattle.std.proofs.Common.{length}
use Rattle.hc_core.proofs.choosing.+mark_each.Given as goal

abbrev pub decreases-mark_each : goal.decreases-mark_each
decreases-mark_each l = length l.blocks.now
