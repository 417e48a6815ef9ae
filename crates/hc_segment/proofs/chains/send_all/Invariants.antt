use Rattle.std.proofs.Common.{◌≡◌}
use Rattle.hc_rings.specs.Frames.{SameFrameSender, frames_sent}
use Rattle.hc_segment.proofs.chains.send_all.Given as goal

abbrev pub invariant-loop-frame : goal.invariant-loop-frame
invariant-loop-frame g l = (frames_sent l.to ≡ l.yielded) × SameFrameSender l.initial.to l.to
