use Rattle.std.proofs.Common.{◌≡◌}
use Rattle.hc_rings.specs.Frames.{SameFrameSender, frames_sent}
use Rattle.hc_segment.proofs.rings.send_waiting.Given as goal

abbrev pub invariant-loop : goal.invariant-loop
invariant-loop g l = (frames_sent l.to ≡ frames_sent l.initial.to) × SameFrameSender l.initial.to l.to × (l.frame ≡ l.initial.frame)
