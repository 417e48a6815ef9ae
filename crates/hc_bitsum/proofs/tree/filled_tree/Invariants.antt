use Rattle.std.proofs.Common.{◌≡◌, take}
use Rattle.hc_bitsum.proofs.tree.filled_tree.Given as goal

-- the areas so far
abbrev pub invariant-loop-area : goal.invariant-loop-area
invariant-loop-area l = l.tree ≡ record { slaves = l.slaves; list = take l.area-index l.areas }
