use Rattle.std.proofs.Common.{length}
use Rattle.hc_machine.proofs.datagrams.+serve_datagrams.Given as goal

abbrev pub decreases-serve_datagrams : goal.decreases-serve_datagrams
decreases-serve_datagrams l = length l.region.now
