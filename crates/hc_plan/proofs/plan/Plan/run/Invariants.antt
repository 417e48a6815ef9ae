use Rattle.std.proofs.Common.{◌≡◌, ◌≤◌, length, vec_capacity}
use Rattle.hc_plan.proofs.Answering.{Goes}
use Rattle.hc_plan.proofs.plan.Plan.run.Given as goal

abbrev pub invariant-loop-edit : goal.invariant-loop-edit
invariant-loop-edit l =
    Goes l.initial.self l.edits l.edit-index l.answers.items l.self
    × (length l.answers.items ≡ l.edit-index)
    × (length l.edits ≤ vec_capacity l.answers)
