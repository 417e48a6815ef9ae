use Rattle.std.proofs.Common.{length}
use Rattle.hc_c.proofs.arriving.+put_blocks.Given as goal

abbrev pub decreases-put_blocks : goal.decreases-put_blocks
decreases-put_blocks l = length l.outcomes.now
