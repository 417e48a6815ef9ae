use Rattle.std.proofs.Common.{◌≡◌, map, take}
use Rattle.hc_events.specs.Steps.{sent_text}
use Rattle.hc_core.proofs.keeping.Core.texts.Given as goal

abbrev pub invariant-loop-frame : goal.invariant-loop-frame
invariant-loop-frame l = l.texts.items ≡ map (sent_text l.self.history) (take l.frame-index l.frames)
