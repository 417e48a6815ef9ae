use Rattle.std.proofs.Common.{◌≡◌, drop}
use Rattle.hc_records.specs.Lists.{some_pair}
use Rattle.hc_records.proofs.conditions.scan.some_pair.Given as goal

-- no pair begins at an item that was passed
abbrev pub invariant-loop-i : goal.invariant-loop-i
invariant-loop-i g l = some_pair g.R.Relation.relation l.items ≡ some_pair g.R.Relation.relation (drop l.i l.items)
