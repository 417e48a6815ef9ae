use Rattle.std.proofs.Common.{refl}
use Rattle.hc_bits.specs.Bits.{number_of}
use Rattle.hc_owed.specs.TaskSets.{tasks_where}
use Rattle.hc_owed.proofs.task_set.TaskSet.none.Goals as goal

pub returns : goal.returns
unfolding tasks_where number_of
returns c = refl
