use Rattle.std.proofs.Common.{length}
use Rattle.hc_sendings.proofs.filling.+own_bytes.Given as goal

abbrev pub decreases-own_bytes : goal.decreases-own_bytes
decreases-own_bytes g l = length l.datagrams.now
