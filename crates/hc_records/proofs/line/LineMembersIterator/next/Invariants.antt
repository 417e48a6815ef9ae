use Rattle.std.proofs.Common.{◌≡◌, ◌+◌, ◌≤◌, ◌++◌, length}
use Rattle.std.specs.Prelude.{sum_by}
use Rattle.hc_records.specs.declared.records.Declared.{Declared}
use Rattle.hc_records.specs.Line.{line_from, members_from}
use Rattle.hc_records.proofs.line.LineMembersIterator.next.Given as goal

abbrev pub invariant-loop-self : goal.invariant-loop-self
invariant-loop-self l =
    let left = l.self-inside in
    (members_from left.rank left.slaves.now ++ line_from (left.rank + length left.slaves.now) left.groups.now ≡ l.fn.self)
    × (left.rank + length left.slaves.now + sum_by (λ (d : Declared). length d.group.slaves) left.groups.now ≤ 65535)

abbrev pub decreases-loop-self : goal.decreases-loop-self
decreases-loop-self l = length l.self-inside.groups.now
