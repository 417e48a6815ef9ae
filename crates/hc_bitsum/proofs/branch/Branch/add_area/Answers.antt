use Rattle.std.proofs.Common.{arith}
use Rattle.hc_bitsum.proofs.Nodes.{few-rows}
use Rattle.hc_bitsum.proofs.Stretches.{branch-size}
use Rattle.hc_bitsum.proofs.branch.Branch.add_area.Goals as goal

pub key_at-requires : goal.key_at-requires
key_at-requires c = grind (arith, few-rows, branch-size)
