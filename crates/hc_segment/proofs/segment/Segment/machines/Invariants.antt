use Rattle.std.proofs.Common.{◌≡◌, All, length, take}
use Rattle.hc_machine.specs.declared.limits.TheConstants.{MEMORY_BYTES}
use Rattle.hc_segment.proofs.segment.Segment.machines.Given as goal

abbrev pub invariant-loop-machine : goal.invariant-loop-machine
invariant-loop-machine l = All (λ m. length m ≡ MEMORY_BYTES) (take l.machine-index l.fn.self)
