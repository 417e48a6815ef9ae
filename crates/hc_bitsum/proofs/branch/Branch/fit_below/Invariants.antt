use Rattle.std.proofs.Common.{◌≡◌, ◌+◌, ◌<◌, ◌≤◌}
use Rattle.hc_bitsum.specs.Branch.{IsNode, node_areas}
use Rattle.hc_bitsum.specs.Filling.{filled_with_areas}
use Rattle.hc_bitsum.specs.Search.{scan}
use Rattle.hc_bitsum.proofs.branch.Branch.fit_below.Given as goal

abbrev pub invariant-loop-height : goal.invariant-loop-height
invariant-loop-height g l = record {
  node : IsNode l.self.levels l.height l.node;
  fit : scan l.room l.so_far (node_areas l.self l.height l.node) ≡ scan l.room l.fn.filled (node_areas l.self l.top l.from);
  here : l.so_far.bit ≤ l.room;
  beyond : l.room < (filled_with_areas l.so_far (node_areas l.self l.height l.node)).bit;
  least : l.fn.steps ≤ l.steps;
  most : l.steps + l.height ≤ l.fn.steps + l.top;
}

abbrev pub decreases-loop-height : goal.decreases-loop-height
decreases-loop-height g l = l.height
