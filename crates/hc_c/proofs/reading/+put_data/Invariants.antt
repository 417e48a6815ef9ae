use Rattle.std.proofs.Common.{length}
use Rattle.hc_c.proofs.reading.+put_data.Given as goal

abbrev pub decreases-put_data : goal.decreases-put_data
decreases-put_data l = length l.datagrams.now
