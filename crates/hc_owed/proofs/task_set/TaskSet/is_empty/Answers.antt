use Rattle.std.proofs.Common.{◌≡◌, ◌==◌, Bool, true, false, refl}
use Rattle.std.specs.Prelude.{not}
use Rattle.hc_owed.specs.TaskSets.{some_task}
use Rattle.hc_owed.proofs.task_set.TaskSet.is_empty.Goals as goal

twice : (b : Bool) → b ≡ not (not b)
twice true = refl
twice false = refl

pub returns : goal.returns
unfolding some_task
returns c = twice (c.args.self.bits == 0)
