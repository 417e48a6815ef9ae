use Rattle.std.proofs.Common.{length}
use Rattle.hc_c.proofs.sending.+put_table.Given as goal

abbrev pub decreases-put_table : goal.decreases-put_table
decreases-put_table l = length l.frames.now
