use Rattle.std.proofs.Common.{◌≡◌, take}
use Rattle.hc_places.proofs.table.same_datagrams.Given as goal

-- the lists are equal so far
abbrev pub invariant-loop-i : goal.invariant-loop-i
invariant-loop-i l = take l.i l.these ≡ take l.i l.those
