use Rattle.std.proofs.Common.{◌≡◌, map, take}
use Rattle.hc_cuts.specs.Starts.{cuts_with_slaves}
use Rattle.hc_cuts.proofs.widening.all_widened.Given as goal

-- the tasks so far
abbrev pub invariant-loop-task : goal.invariant-loop-task
invariant-loop-task l = l.wider.items ≡ map (cuts_with_slaves l.slaves) (take l.task-index l.tasks)
