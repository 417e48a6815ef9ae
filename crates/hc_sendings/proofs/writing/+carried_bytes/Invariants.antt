use Rattle.std.proofs.Common.{length}
use Rattle.hc_sendings.proofs.writing.+carried_bytes.Given as goal

abbrev pub decreases-carried_bytes : goal.decreases-carried_bytes
decreases-carried_bytes g l = length l.datagrams.now
