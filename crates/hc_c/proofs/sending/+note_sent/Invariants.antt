use Rattle.std.proofs.Common.{length}
use Rattle.hc_c.proofs.sending.+note_sent.Given as goal

abbrev pub decreases-note_sent : goal.decreases-note_sent
decreases-note_sent l = length l.tasks.now
