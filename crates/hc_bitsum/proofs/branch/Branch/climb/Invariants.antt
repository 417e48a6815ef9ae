use Rattle.std.proofs.Common.{◌≡◌, ◌-◌, ◌≤◌}
use Rattle.hc_bitsum.specs.Filling.{filled_with_areas}
use Rattle.hc_bitsum.specs.Rows.{part}
use Rattle.hc_bitsum.specs.Strides.{BeginsWithRow}
use Rattle.hc_bitsum.proofs.branch.Branch.climb.Given as goal

abbrev pub invariant-loop-height : goal.invariant-loop-height
invariant-loop-height l = record {
  begins : BeginsWithRow l.self.levels l.height l.node l.row;
  from : l.first ≤ l.row;
  within : l.row ≤ l.end;
  so_far : l.so_far ≡ filled_with_areas l.fn.filled (part l.self.dir l.self.rows.items l.first (l.row - l.first));
}

abbrev pub decreases-loop-height : goal.decreases-loop-height
decreases-loop-height l = l.self.levels - l.height
