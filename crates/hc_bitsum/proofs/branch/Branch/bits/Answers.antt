use Rattle.std.proofs.Common.{arith}
use Rattle.std.proofs.lemmas.List.{get_or_default}
use Rattle.hc_bitsum.proofs.Anew.{bits-part}
use Rattle.hc_bitsum.proofs.Nodes.{row-inside}
use Rattle.hc_bitsum.proofs.branch.Branch.bits.Goals as goal

pub index-requires : goal.index-requires
index-requires c = grind (arith, row-inside)

pub returns : goal.returns
returns c = grind (arith, row-inside, get_or_default, bits-part)
