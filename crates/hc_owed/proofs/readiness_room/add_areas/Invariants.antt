use Rattle.std.proofs.Common.{◌≡◌, ◌+◌, ◌≤◌, ◌++◌, length, replicate}
use Rattle.std.specs.Prelude.{vec_capacity}
use Rattle.hc_owed.specs.Readiness.{no_area}
use Rattle.hc_owed.proofs.readiness_room.add_areas.Given as goal

-- so many are added, and there is room for the others
abbrev pub invariant-loop : goal.invariant-loop
invariant-loop l = record {
  list : l.areas.items ≡ l.fn.areas.items ++ replicate l.counter no_area;
  room : length l.fn.areas.items + l.count ≤ vec_capacity l.areas;
}
