use Rattle.std.proofs.Common.{◌≡◌, ◌≤◌, length, vec_capacity}
use Rattle.hc_rings.specs.Frames.{SameFrameReceiver, frames_taken}
use Rattle.hc_segment.proofs.chains.take_all.Given as goal

abbrev pub invariant-loop : goal.invariant-loop
invariant-loop g l = (l.answer.items ≡ frames_taken l.from) × (length l.answer.items ≡ l.counter) × (l.fn.count ≤ vec_capacity l.answer) × SameFrameReceiver l.initial.from l.from
