use Rattle.hc_groups.proofs.Merging.{MergedFrom}
use Rattle.hc_groups.proofs.variables.add_variables.Given as goal

abbrev pub invariant-loop-more : goal.invariant-loop-more
invariant-loop-more l = MergedFrom l.fn.variables.items l.names l.variables.items l.left l.more

abbrev pub decreases-loop-more : goal.decreases-loop-more
decreases-loop-more l = l.more
