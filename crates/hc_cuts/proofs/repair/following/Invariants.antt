use Rattle.std.proofs.Common.{◌≡◌, drop}
use Rattle.hc_cuts.specs.Repair.{following}
use Rattle.hc_cuts.proofs.repair.following.Given as goal

-- the key isn't among those so far
abbrev pub invariant-loop-i : goal.invariant-loop-i
invariant-loop-i l = following l.from (drop l.i l.starts) ≡ following l.from l.starts
