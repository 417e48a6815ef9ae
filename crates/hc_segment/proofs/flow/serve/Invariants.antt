use Rattle.std.proofs.Common.{◌≡◌, length}
use Rattle.hc_rings.specs.Frames.{SameFrameReceiver, SameFrameSender, frames_sent, frames_taken}
use Rattle.hc_segment.specs.Line.{frames_through, machines_after}
use Rattle.hc_segment.proofs.flow.serve.Given as goal

abbrev pub invariant-loop : goal.invariant-loop
invariant-loop g l = record {
  count : length (frames_taken l.from) ≡ l.counter;
  frames : frames_sent l.to ≡ frames_through l.initial.segment (frames_taken l.from);
  machines : l.segment ≡ machines_after l.initial.segment (frames_taken l.from);
  rings : SameFrameReceiver l.initial.from l.from × SameFrameSender l.initial.to l.to;
}
