use Rattle.std.proofs.Common.{length}
use Rattle.hc_sendings.proofs.filling.+fill_part.Given as goal

abbrev pub decreases-fill_part : goal.decreases-fill_part
decreases-fill_part g l = length l.frames.now
