use Rattle.std.proofs.Common.{◌≡◌, ◌+◌, ◌≤◌, drop}
use Rattle.hc_bitsum.specs.Rows.{row_areas}
use Rattle.hc_bitsum.specs.Search.{scan}
use Rattle.hc_bitsum.proofs.row.fit_row.Given as goal

abbrev pub invariant-loop-area : goal.invariant-loop-area
invariant-loop-area g l = record {
  fit : scan l.room l.so_far (drop l.area (row_areas l.dir l.place l.row)) ≡ scan l.room l.fn.filled (drop l.from (row_areas l.dir l.place l.row));
  here : l.so_far.bit ≤ l.room;
  count : l.steps + l.from ≡ l.fn.steps + l.area;
}
