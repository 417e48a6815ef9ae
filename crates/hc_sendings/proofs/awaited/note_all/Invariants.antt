use Rattle.std.proofs.Common.{◌≡◌, length, take}
use Rattle.hc_events.specs.Sendings.{Named}
use Rattle.hc_sendings.specs.Stored.{last_sent_after, last_sent_of}
use Rattle.hc_sendings.specs.Waiting.{IsTaskDatagram}
use Rattle.hc_sendings.proofs.awaited.note_all.Given as goal

abbrev pub invariant-loop-frame : goal.invariant-loop-frame
invariant-loop-frame l = record {
  noted : (named : Named) → IsTaskDatagram named → last_sent_of l.last_sent named ≡ last_sent_after named (last_sent_of l.fn.last_sent named) (take l.frame-index l.frames);
  places : length l.last_sent ≡ length l.fn.last_sent;
}
