use Rattle.std.proofs.Common.{length}
use Rattle.hc_core.proofs.choosing.+confirm.Given as goal

abbrev pub decreases-confirm : goal.decreases-confirm
decreases-confirm l = length l.blocks.now
