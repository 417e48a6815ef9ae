use Rattle.std.proofs.Common.{rules}
use Rattle.hc_groups.proofs.Turned.{recounted-after_it}
use Rattle.hc_groups.proofs.sums.recount.Goals as goal

pub returns : goal.returns
returns c = search (rules, recounted-after_it)
