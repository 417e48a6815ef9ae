use Rattle.std.proofs.Common.{rules}
use Rattle.hc_groups.proofs.Changed.{changed-by, changed-all}
use Rattle.hc_groups.proofs.areas.areas_after.Goals as goal

pub loop-i-preserved : goal.loop-i-preserved
loop-i-preserved c = search (rules, changed-by)

pub returns : goal.returns
returns c = search (rules, changed-all)
