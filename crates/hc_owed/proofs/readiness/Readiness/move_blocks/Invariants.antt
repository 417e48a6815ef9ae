use Rattle.std.proofs.Common.{◌≡◌, ℕ, ◌<◌, ◌||◌, drop, length}
use Rattle.std.specs.List.{list_any}
use Rattle.hc_owed.specs.ChangedTasks.{moves_task}
use Rattle.hc_owed.specs.ReadinessSteps.{areas_moved}
use Rattle.hc_owed.specs.TaskSets.{has_task}
use Rattle.hc_owed.proofs.readiness.Readiness.move_blocks.Given as goal

-- the blocks that are left make of the areas what all do; the tasks so far, and those of the blocks that are left, are all
abbrev pub invariant-loop-block : goal.invariant-loop-block
invariant-loop-block l =
    (areas_moved l.owed.owed (drop l.block-index l.moved) l.self ≡ areas_moved l.owed.owed l.moved l.fn.self)
    × (length l.self ≡ length l.fn.self)
    × ((task : ℕ) → task < 8 → (has_task task l.set || list_any (moves_task l.self task) (drop l.block-index l.moved)) ≡ list_any (moves_task l.fn.self task) l.moved)
