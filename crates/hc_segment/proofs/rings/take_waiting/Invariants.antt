use Rattle.std.proofs.Common.{◌≡◌}
use Rattle.hc_rings.specs.Frames.{SameFrameReceiver, frames_taken}
use Rattle.hc_segment.proofs.rings.take_waiting.Given as goal

abbrev pub invariant-loop : goal.invariant-loop
invariant-loop g l = (frames_taken l.from ≡ frames_taken l.initial.from) × SameFrameReceiver l.initial.from l.from
