use Rattle.std.proofs.lemmas.List.{take_all}
use Rattle.hc_cuts.proofs.widening.all_widened.Goals as goal

pub returns : goal.returns
returns c = rw (take_all c.loop-task.task-index c.args.tasks.now c.loop-task-test.false) at c.loop-task.invariant
