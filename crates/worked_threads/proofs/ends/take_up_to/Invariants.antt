use Rattle.std.proofs.Common.{◌≡◌, ◌-◌, length}
use Rattle.hc_rings.specs.Ring.{taken}
use Rattle.hc_rings.specs.Finished.{all_posted, IsEndOf}
use Rattle.worked_threads.proofs.ends.take_up_to.Given as goal

abbrev pub invariant-loop-receiver : goal.invariant-loop-receiver
invariant-loop-receiver l = record {
  ends : IsEndOf l.end l.receiver;
  same : all_posted l.end ≡ all_posted l.fn.end;
}

abbrev pub decreases-loop-receiver : goal.decreases-loop-receiver
decreases-loop-receiver l = length (all_posted l.end) - length (taken l.receiver)
