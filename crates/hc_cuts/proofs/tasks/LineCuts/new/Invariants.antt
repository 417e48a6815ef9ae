use Rattle.std.proofs.Common.{◌≡◌}
use Rattle.std.specs.Prelude.{replicate}
use Rattle.hc_cuts.specs.Starts.{empty_task_cuts}
use Rattle.hc_cuts.proofs.tasks.LineCuts.new.Given as goal

-- the tasks so far
abbrev pub invariant-loop : goal.invariant-loop
invariant-loop l = l.tasks.items ≡ replicate l.counter (empty_task_cuts l.slaves)
