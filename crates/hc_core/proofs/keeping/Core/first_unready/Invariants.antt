use Rattle.std.proofs.Common.{◌≡◌, drop}
use Rattle.hc_core.specs.Ready.{first_unready}
use Rattle.hc_core.proofs.keeping.Core.first_unready.Given as goal

-- the first of those that are left is the first of all
abbrev pub invariant-loop-task : goal.invariant-loop-task
invariant-loop-task l = first_unready l.fn.self.history (drop l.task-index l.tasks) ≡ first_unready l.fn.self.history l.fn.tasks
