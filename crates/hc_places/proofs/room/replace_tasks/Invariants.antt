use Rattle.std.proofs.Common.{◌≡◌, drop, length}
use Rattle.hc_places.specs.Swap.{tasks_replaced}
use Rattle.hc_places.proofs.room.replace_tasks.Given as goal

-- the tasks so far, with those that are left, are all; none comes or goes
abbrev pub invariant-loop-change : goal.invariant-loop-change
invariant-loop-change l = record {
  is : tasks_replaced (drop l.change-index l.changed) l.tasks ≡ tasks_replaced l.changed l.initial.tasks;
  length : length l.tasks ≡ length l.initial.tasks;
}
