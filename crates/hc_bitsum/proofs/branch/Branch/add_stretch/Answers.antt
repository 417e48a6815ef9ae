use Rattle.std.proofs.Common.{arith}
use Rattle.hc_bitsum.proofs.Between.{wide-one, wide-row}
use Rattle.hc_bitsum.proofs.Nodes.{few-rows}
use Rattle.hc_bitsum.proofs.Stretches.{branch-size}
use Rattle.hc_bitsum.proofs.branch.Branch.add_stretch.Goals as goal

pub overflow_add-at : goal.overflow_add-at
overflow_add-at c = grind (arith, few-rows, branch-size)

pub is_blank-requires-clause-within : goal.is_blank-requires-clause-within
is_blank-requires-clause-within c = grind (arith, branch-size)

pub places-preserved-then-is_blank : goal.places-preserved-then-is_blank
places-preserved-then-is_blank c = grind (arith, branch-size, wide-row)

pub places-preserved : goal.places-preserved
places-preserved c = grind (arith, wide-one)
