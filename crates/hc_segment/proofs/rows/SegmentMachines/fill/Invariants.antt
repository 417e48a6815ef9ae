use Rattle.std.proofs.Common.{◌≡◌, ◌≤◌, ◌++◌, vec_len, vec_capacity}
use Rattle.std.specs.Vec.Iter.{into_iter_items}
use Rattle.hc_segment.proofs.rows.SegmentMachines.fill.Given as goal

abbrev pub invariant-loop : goal.invariant-loop
invariant-loop l = record {
  filled : vec_len l.row ≡ l.counter;
  room : l.most ≤ vec_capacity l.row;
  all : l.row.items ++ into_iter_items l.machines ≡ into_iter_items l.initial.machines;
}
