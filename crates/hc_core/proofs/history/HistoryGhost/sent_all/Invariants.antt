use Rattle.std.proofs.Common.{◌≡◌, drop}
use Rattle.hc_events.specs.Steps.{with_sent}
use Rattle.hc_core.specs.Records.{history_read}
use Rattle.hc_core.proofs.history.HistoryGhost.sent_all.Given as goal

-- with what is left to come it is the whole
abbrev pub invariant-loop-frame : goal.invariant-loop-frame
invariant-loop-frame l = with_sent (history_read l.self) (drop l.frame-index l.frames) ≡ with_sent (history_read l.fn.self) l.frames
