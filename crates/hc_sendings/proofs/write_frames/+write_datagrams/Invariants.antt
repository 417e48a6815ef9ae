use Rattle.std.proofs.Common.{length}
use Rattle.hc_sendings.proofs.write_frames.+write_datagrams.Given as goal

abbrev pub decreases-write_datagrams : goal.decreases-write_datagrams
decreases-write_datagrams l = length l.blocks.now
