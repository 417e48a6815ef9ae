use Rattle.std.proofs.Common.{◌≡◌, ◌+◌, ◌≤◌, ◌++◌, length, take}
use Rattle.std.specs.Prelude.{vec_capacity}
use Rattle.hc_places.proofs.middle.append.Given as goal

-- so many are added so far, and the room is kept
abbrev pub invariant-loop-row : goal.invariant-loop-row
invariant-loop-row l = record {
  is : l.rows.items ≡ l.initial.rows.items ++ take l.row-index l.more;
  count : length l.rows.items ≡ length l.initial.rows.items + l.row-index;
  room : length l.initial.rows.items + length l.more ≤ vec_capacity l.rows;
}
