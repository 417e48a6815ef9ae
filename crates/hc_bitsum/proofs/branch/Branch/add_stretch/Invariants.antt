use Rattle.std.proofs.Common.{◌≡◌, ◌++◌, ◌≤◌, ◌-◌}
use Rattle.std.specs.Prelude.{filter}
use Rattle.hc_bitsum.specs.Branch.{branch_slots}
use Rattle.hc_bitsum.specs.Slots.{stretch}
use Rattle.hc_bitsum.specs.Tree.{has_width}
use Rattle.hc_bitsum.proofs.branch.Branch.add_stretch.Given as goal

-- the areas up to a place
abbrev pub invariant-places : goal.invariant-places
invariant-places l = record {
  low : l.first ≤ l.at;
  high : l.at ≤ l.end;
  areas : l.areas.items ≡ l.fn.areas.items ++ filter has_width (stretch l.first l.at (branch_slots l.self).areas);
}

abbrev pub decreases-places : goal.decreases-places
decreases-places l = l.end - l.at
