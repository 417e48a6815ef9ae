use Rattle.std.proofs.Common.{◌≡◌, ℕ, ◌&&◌, nat_lt}
use Rattle.hc_owed.specs.Tally.{counts_none}
use Rattle.hc_owed.specs.TaskSets.{tasks_where}
use Rattle.hc_owed.proofs.tally.Tally.free.Given as goal

-- the set has the tasks before the present one for which nothing is counted
abbrev pub invariant-loop-task : goal.invariant-loop-task
invariant-loop-task l = l.set ≡ tasks_where (λ (t : ℕ). nat_lt t l.task && counts_none l.self t)
