use Rattle.std.proofs.Common.{◌≡◌, ◌+◌, ◌≤◌, ◌++◌, false, length, replicate}
use Rattle.hc_owed.proofs.flags.Flags.add_cleared.Given as goal

-- so many are added, and there is room for the others
abbrev pub invariant-loop : goal.invariant-loop
invariant-loop l = record {
  list : l.self.list ≡ l.fn.self.list ++ replicate l.counter false;
  room : length l.fn.self.list + l.more ≤ l.self.room;
}
