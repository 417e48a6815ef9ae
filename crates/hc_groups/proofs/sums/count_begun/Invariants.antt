use Rattle.hc_groups.proofs.Halves.{Between}
use Rattle.hc_groups.proofs.sums.count_begun.Given as goal

abbrev pub invariant-loop-left : goal.invariant-loop-left
invariant-loop-left l = Between l.sums l.n l.begun l.left

abbrev pub decreases-loop-left : goal.decreases-loop-left
decreases-loop-left l = l.left
