use Rattle.std.proofs.Common.{◌≡◌, drop}
use Rattle.hc_owed.specs.Flags.{nth_set}
use Rattle.hc_owed.proofs.flags.Flags.nth.Given as goal

-- the flag that is sought is the one with what is left of the index, of the flags that are left
abbrev pub invariant-loop-n : goal.invariant-loop-n
invariant-loop-n l = nth_set l.left l.n (drop l.n l.self.list) ≡ nth_set l.index 0 l.self.list
