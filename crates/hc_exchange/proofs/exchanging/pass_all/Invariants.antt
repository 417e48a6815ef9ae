use Rattle.std.proofs.Common.{◌≡◌, take}
use Rattle.std.specs.Prelude.{map}
use Rattle.hc_segment.specs.Line.{machines_after}
use Rattle.hc_exchange.proofs.Collected.{gone}
use Rattle.hc_exchange.proofs.exchanging.pass_all.Given as goal

abbrev pub invariant-loop-frame : goal.invariant-loop-frame
invariant-loop-frame l =
    (map (λ frame. frame.items) l.frames ≡ gone l.frame-index l.initial.segment (map (λ frame. frame.items) l.initial.frames))
    × (l.segment ≡ machines_after l.initial.segment (take l.frame-index (map (λ frame. frame.items) l.initial.frames)))
