use Rattle.std.proofs.Common.{◌≡◌, map, take}
use Rattle.hc_events.specs.Steps.{sent_text}
use Rattle.hc_program.proofs.commands.cycle.all_boxed.Given as goal

-- the frames so far are boxed
abbrev pub invariant-loop-frame : goal.invariant-loop-frame
invariant-loop-frame l = l.all.items ≡ map (sent_text l.core.history) (take l.frame-index l.frames)
