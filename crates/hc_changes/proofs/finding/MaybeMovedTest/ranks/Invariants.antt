use Rattle.std.proofs.Common.{ℕ, ◌<◌}
use Rattle.hc_changes.specs.inner.Found.{HoldChanged, HoldRecut}
use Rattle.hc_changes.proofs.finding.MaybeMovedTest.ranks.Given as goal

-- the ranks of the slaves that change, and those of the tasks so far
abbrev pub invariant-loop-task : goal.invariant-loop-task
invariant-loop-task l = record {
  changed : HoldChanged l.self l.ranks.low l.ranks.high;
  recut : (task : ℕ) → task < l.task → HoldRecut l.self task l.ranks.low l.ranks.high;
}
