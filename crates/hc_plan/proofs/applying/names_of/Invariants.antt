use Rattle.std.proofs.Common.{◌≡◌, ◌++◌, drop, map}
use Rattle.hc_plan.specs.Reports.{found_name}
use Rattle.hc_plan.proofs.applying.names_of.Given as goal

-- the names so far, and those of the blocks that are left, are all
abbrev pub invariant-loop-block : goal.invariant-loop-block
invariant-loop-block l = l.names.items ++ map (λ block. found_name block.found) (drop l.block-index l.blocks) ≡ map (λ block. found_name block.found) l.blocks
