use Rattle.std.proofs.Common.{ℕ, ◌^◌, ◌<◌}
use Rattle.hc_bitsum.proofs.tree.levels_of.Given as goal

-- the powers of two so far are less than the number of slaves
abbrev pub invariant-loop-levels : goal.invariant-loop-levels
invariant-loop-levels l = (levels : ℕ) → levels < l.levels → 2 ^ levels < l.slaves
