use Rattle.std.proofs.Common.{◌≡◌, ◌+◌, ◌-◌, ◌^◌, ◌<◌, ◌≤◌}
use Rattle.hc_bitsum.specs.Filling.{filled_with_areas}
use Rattle.hc_bitsum.specs.Rows.{part}
use Rattle.hc_bitsum.specs.Strides.{BeginsWithRow}
use Rattle.hc_bitsum.proofs.branch.Branch.descend.Given as goal

abbrev pub invariant-levels : goal.invariant-levels
invariant-levels l = record {
  begins : BeginsWithRow l.self.levels l.height l.node l.row;
  from : l.fn.from.row ≤ l.row;
  within : l.row ≤ l.end;
  near : l.end < l.row + 2 ^ (l.height + 1);
  so_far : l.so_far ≡ filled_with_areas l.fn.from.filled (part l.self.dir l.self.rows.items l.fn.from.row (l.row - l.fn.from.row));
}

abbrev pub decreases-levels : goal.decreases-levels
decreases-levels l = l.height
