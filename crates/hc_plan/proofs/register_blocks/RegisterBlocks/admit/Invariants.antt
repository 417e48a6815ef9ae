use Rattle.std.proofs.Common.{◌≡◌, ◌+◌, ◌≤◌, ◌++◌, None, length, replicate}
use Rattle.std.specs.Prelude.{vec_capacity}
use Rattle.hc_plan.proofs.register_blocks.RegisterBlocks.admit.Given as goal

-- so many are added, and there is room for the others
abbrev pub invariant-loop : goal.invariant-loop
invariant-loop l = record {
  list : l.self-inside.places.items ≡ l.fn.self ++ replicate l.counter None;
  room : length l.fn.self + l.places ≤ vec_capacity l.self-inside.places;
}
