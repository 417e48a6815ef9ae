use Rattle.std.proofs.Common.{◌≡◌, ◌+◌, length, take}
use Rattle.hc_cuts.specs.Areas.{areas_by_rank}
use Rattle.hc_cuts.specs.TaskCuts.{line_cuts}
use Rattle.hc_changes.specs.inner.Found.{found_below}
use Rattle.hc_changes.proofs.finding.MaybeMovedTest.all.Given as goal

-- the rank of the first slave of the groups that are left, and the candidates of the slaves before it
abbrev pub invariant-loop-i : goal.invariant-loop-i
invariant-loop-i l = record {
  places : l.places ≡ line_cuts (areas_by_rank l.self.new);
  first : l.first ≡ length (areas_by_rank (take l.i l.self.old)) + 1;
  found : l.found.items ≡ found_below l.self l.first;
}
