use Rattle.hc_changes.specs.inner.Found.{HoldRanks}
use Rattle.hc_changes.proofs.lemmas.FoundWithin.{HoldFirst}
use Rattle.hc_changes.proofs.finding.MaybeMovedTest.with_recut.Given as goal

-- the given ranks, and those of the datagrams so far that aren't kept
abbrev pub invariant-loop-number : goal.invariant-loop-number
invariant-loop-number l = record {
  own : HoldRanks l.all.low l.all.high l.fn.ranks.low l.fn.ranks.high;
  first : HoldFirst l.self l.task l.number l.all.low l.all.high;
}
