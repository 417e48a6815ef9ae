use Rattle.std.proofs.Common.{◌≡◌, ◌++◌, filter, map, take, vec_capacity}
use Rattle.hc_sendings.specs.Stored.{stored_frame, last_sent_of}
use Rattle.hc_sendings.proofs.AwaitedStill.{stays_at}
use Rattle.hc_sendings.proofs.awaited.add_all.Given as goal

abbrev pub invariant-loop-frame : goal.invariant-loop-frame
invariant-loop-frame l = record {
  frames : l.frames.items ≡ l.initial.frames.items ++ filter (stays_at (last_sent_of l.last_sent)) (map stored_frame (take l.frame-index l.more));
  room : vec_capacity l.frames ≡ vec_capacity l.initial.frames;
}
