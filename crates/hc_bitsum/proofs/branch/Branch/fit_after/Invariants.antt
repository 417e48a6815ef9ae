use Rattle.std.proofs.Common.{◌≡◌, ◌+◌, ◌-◌, ◌^◌, ◌≤◌}
use Rattle.hc_bitsum.specs.Branch.{IsNode, areas_after, first_row_of}
use Rattle.hc_bitsum.specs.Search.{scan}
use Rattle.hc_bitsum.proofs.branch.Branch.fit_after.Given as goal

abbrev pub invariant-loop-height : goal.invariant-loop-height
invariant-loop-height g l = record {
  node : IsNode l.self.levels l.height l.node;
  fit : scan l.room l.so_far (areas_after l.self (first_row_of l.self.levels l.height l.node + 2 ^ l.height)) ≡ scan l.room l.fn.filled (areas_after l.self (l.row + 1));
  here : l.so_far.bit ≤ l.room;
  least : l.fn.steps ≤ l.steps;
  most : l.steps ≤ l.fn.steps + l.height;
}

abbrev pub decreases-loop-height : goal.decreases-loop-height
decreases-loop-height g l = l.self.levels - l.height
