use Rattle.std.proofs.Common.{ℕ, ◌==◌, ap}
use Rattle.std.proofs.lemmas.Nat.Bits.{shr_and_one}
use Rattle.hc_owed.specs.TaskSets.{has_task}
use Rattle.hc_owed.proofs.task_set.TaskSet.has.Goals as goal

pub returns : goal.returns
unfolding has_task
returns c = ap (λ (n : ℕ). n == 1) (shr_and_one c.args.self.bits c.args.task)
