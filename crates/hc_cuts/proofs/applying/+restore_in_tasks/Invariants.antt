use Rattle.std.proofs.Common.{length}
use Rattle.hc_cuts.proofs.applying.+restore_in_tasks.Given as goal

abbrev pub decreases-restore_in_tasks : goal.decreases-restore_in_tasks
decreases-restore_in_tasks l = length l.tasks.now
