use Rattle.std.proofs.Common.{◌*◌, ◌≤◌}
use Rattle.hc_sendings.proofs.framing.most_frames.Given as goal

abbrev pub invariant-loop-task : goal.invariant-loop-task
invariant-loop-task l = l.count ≤ 16 * l.task-index
