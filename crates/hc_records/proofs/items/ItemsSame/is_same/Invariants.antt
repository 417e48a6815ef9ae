use Rattle.std.proofs.Common.{◌≡◌, take}
use Rattle.hc_records.proofs.items.ItemsSame.is_same.Given as goal

-- the lists are equal so far
abbrev pub invariant-loop-i : goal.invariant-loop-i
invariant-loop-i g l = take l.i l.these ≡ take l.i l.those
