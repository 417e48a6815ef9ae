use Rattle.std.proofs.Common.{◌≡◌, ◌≤◌, All, length}
use Rattle.hc_segment.proofs.rows.rows_of.Given as goal

abbrev pub invariant-loop : goal.invariant-loop
invariant-loop l = record {
  count : length l.rows.items ≡ l.counter;
  wide : All (λ row. l.size ≤ row) l.rows.items;
}
