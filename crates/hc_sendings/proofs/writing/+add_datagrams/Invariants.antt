use Rattle.std.proofs.Common.{length}
use Rattle.hc_sendings.proofs.writing.+add_datagrams.Given as goal

abbrev pub decreases-add_datagrams : goal.decreases-add_datagrams
decreases-add_datagrams g l = length l.datagrams.now
