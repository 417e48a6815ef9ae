use Rattle.std.proofs.Common.{length}
use Rattle.hc_frames.proofs.building.datagrams.+write_blank_datagrams.Given as goal

abbrev pub decreases-write_blank_datagrams : goal.decreases-write_blank_datagrams
decreases-write_blank_datagrams l = length l.datagrams.now
