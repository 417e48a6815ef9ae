use Rattle.std.proofs.Common.{◌≡◌, ◌++◌, drop, map, take}
use Rattle.hc_cuts.specs.Starts.{cuts_with_slaves}
use Rattle.hc_cuts.proofs.widening.admit_all.Given as goal

-- the tasks so far have so many slaves
abbrev pub invariant-loop-task : goal.invariant-loop-task
invariant-loop-task l = l.tasks ≡ map (cuts_with_slaves l.slaves) (take l.task-index l.initial.tasks) ++ drop l.task-index l.initial.tasks
