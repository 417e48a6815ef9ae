use Rattle.std.proofs.Common.{rules}
use Rattle.hc_groups.proofs.Set.{changed-outside, changed-set}
use Rattle.hc_groups.proofs.carrying.turn.Goals as goal

pub returns-then-change-len : goal.returns-then-change-len
returns-then-change-len c = search (rules, changed-set)

pub returns-else-change-len : goal.returns-else-change-len
returns-else-change-len c = search (rules, changed-outside)
