use Rattle.std.proofs.Common.{◌≡◌, ◌+◌, ◌≤◌, ◌++◌, None, length, replicate}
use Rattle.std.specs.Prelude.{vec_capacity}
use Rattle.hc_owed.proofs.room.add_nothing.Given as goal

-- so many are added, and there is room for the others
abbrev pub invariant-loop : goal.invariant-loop
invariant-loop l = record {
  list : l.list.items ≡ l.fn.list.items ++ replicate l.counter None;
  room : length l.fn.list.items + l.places ≤ vec_capacity l.list;
}
