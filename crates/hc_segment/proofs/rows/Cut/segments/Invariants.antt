use Rattle.std.proofs.Common.{◌≡◌, ◌≤◌, ◌+◌, ◌*◌, ◌++◌, All, length, map, vec_len, vec_capacity}
use Rattle.std.specs.Vec.Iter.{into_iter_items, into_iter_len}
use Rattle.hc_segment.specs.Line.{all_machines}
use Rattle.hc_segment.proofs.rows.Cut.segments.Given as goal

abbrev pub invariant-loop-row : goal.invariant-loop-row
invariant-loop-row l = record {
  dealt : all_machines l.segments.items ++ into_iter_items l.machines ≡ into_iter_items l.initial.machines;
  left : length (into_iter_items l.machines) ≤ into_iter_len l.row-iterator * l.size;
  room : vec_len l.segments + into_iter_len l.row-iterator ≤ vec_capacity l.segments;
  number : vec_len l.segments + into_iter_len l.row-iterator ≡ l.fn.self.number;
  sizes : All (λ size. size ≤ l.size) (map length l.segments.items);
  wide : All (λ row. l.size ≤ row) (into_iter_items l.row-iterator);
}
