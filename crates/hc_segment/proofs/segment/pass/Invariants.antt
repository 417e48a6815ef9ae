use Rattle.std.proofs.Common.{◌≡◌, ◌++◌, take, drop, true}
use Rattle.std.specs.Prelude.{is_none}
use Rattle.hc_frames.specs.Arrived.{fault_in}
use Rattle.hc_segment.specs.Line.{frame_through, machines_after_frame}
use Rattle.hc_segment.proofs.segment.pass.Given as goal

abbrev pub invariant-loop-machine : goal.invariant-loop-machine
invariant-loop-machine l =
    (l.machines ≡ machines_after_frame (take l.machine-index l.initial.machines) l.initial.frame ++ drop l.machine-index l.initial.machines)
    × (l.frame ≡ frame_through (take l.machine-index l.initial.machines) l.initial.frame) × (is_none (fault_in l.frame) ≡ true)
