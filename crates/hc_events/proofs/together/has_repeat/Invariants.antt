use Rattle.std.proofs.Common.{◌≡◌, length}
use Rattle.hc_records.specs.Lists.{has_repeat}
use Rattle.hc_events.proofs.together.has_repeat.Given as goal

-- no task passed is among those after it
abbrev pub invariant-loop-rest : goal.invariant-loop-rest
invariant-loop-rest l = has_repeat l.rest ≡ has_repeat l.fn.tasks

abbrev pub decreases-loop-rest : goal.decreases-loop-rest
decreases-loop-rest l = length l.rest
