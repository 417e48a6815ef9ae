use Rattle.std.proofs.Common.{length}
use Rattle.hc_cuts.proofs.applying.+apply_in_tasks.Given as goal

abbrev pub decreases-apply_in_tasks : goal.decreases-apply_in_tasks
decreases-apply_in_tasks g l = length l.tasks.now
