use Rattle.std.proofs.Common.{arith}
use Rattle.std.proofs.lemmas.List.{get_or_default}
use Rattle.hc_bitsum.proofs.Between.{sum-none}
use Rattle.hc_bitsum.proofs.branch.Branch.is_blank.Goals as goal

pub returns-in-Empty : goal.returns-in-Empty
returns-in-Empty c = grind (arith, get_or_default, sum-none)
