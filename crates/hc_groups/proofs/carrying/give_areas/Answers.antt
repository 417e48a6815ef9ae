use Rattle.std.proofs.Common.{rules}
use Rattle.hc_groups.proofs.Set.{changed-outside, changed-set}
use Rattle.hc_groups.proofs.carrying.give_areas.Goals as goal

pub returns-then-slave-len : goal.returns-then-slave-len
returns-then-slave-len c = search (rules, changed-set)

pub returns-else-slave-len : goal.returns-else-slave-len
returns-else-slave-len c = search (rules, changed-outside)
