use Rattle.std.proofs.Common.{rules}
use Rattle.hc_groups.proofs.Set.{changed-outside, changed-set}
use Rattle.hc_groups.proofs.carrying.reassign.Goals as goal

pub returns-then-place-len : goal.returns-then-place-len
returns-then-place-len c = search (rules, changed-set)

pub returns-else-place-len : goal.returns-else-place-len
returns-else-place-len c = search (rules, changed-outside)
