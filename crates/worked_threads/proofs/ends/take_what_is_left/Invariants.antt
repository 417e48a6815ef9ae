use Rattle.std.proofs.Common.{◌≡◌, ◌+◌, ◌++◌, length}
use Rattle.hc_rings.specs.Ring.{taken, left, EndCameAfter}
use Rattle.worked_threads.proofs.ends.take_what_is_left.Given as goal

abbrev pub invariant-loop : goal.invariant-loop
invariant-loop l = record {
  all : EndCameAfter l.receiver (taken l.receiver ++ left l.receiver);
  some_left : length (left l.receiver) + l.counter ≡ l.count;
}
