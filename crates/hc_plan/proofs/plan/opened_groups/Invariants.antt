use Rattle.std.proofs.Common.{◌≡◌, ◌++◌, map}
use Rattle.std.specs.Vec.Iter.{into_iter_items}
use Rattle.hc_records.specs.Line.{opened_group}
use Rattle.hc_plan.proofs.plan.opened_groups.Given as goal

abbrev pub invariant-loop-group : goal.invariant-loop-group
invariant-loop-group l = l.opened.items ++ map opened_group (into_iter_items l.group-iterator) ≡ map opened_group l.fn.groups.items
