use Rattle.std.proofs.Common.{arith}
use Rattle.std.proofs.lemmas.Grind.{same_number_lists}
use Rattle.hc_bitsum.proofs.Ends.{ends_by-at}
use Rattle.hc_bitsum.proofs.row.ends_after.Goals as goal

pub returns : goal.returns
returns c = grind (arith, same_number_lists, ends_by-at)
