use Rattle.std.proofs.Common.{◌≡◌}
use Rattle.hc_bitsum.specs.Branch.{branch_slots}
use Rattle.hc_bitsum.specs.Filling.{filled_with_areas}
use Rattle.hc_bitsum.specs.Slots.{stretch}
use Rattle.hc_bitsum.proofs.branch.Branch.filled_by_each.Given as goal

abbrev pub invariant-loop-at : goal.invariant-loop-at
invariant-loop-at l = l.so_far ≡ filled_with_areas l.fn.filled (stretch l.first l.at (branch_slots l.self).areas)
