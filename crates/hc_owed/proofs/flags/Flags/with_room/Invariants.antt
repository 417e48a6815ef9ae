use Rattle.std.proofs.Common.{◌≡◌}
use Rattle.hc_owed.proofs.flags.Flags.with_room.Given as goal

abbrev pub invariant-loop : goal.invariant-loop
invariant-loop l = l.words.len ≡ l.counter
