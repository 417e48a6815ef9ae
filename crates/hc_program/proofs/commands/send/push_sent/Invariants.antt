use Rattle.std.proofs.Common.{◌≡◌, ◌++◌, take, string_bytes}
use Rattle.std.specs.List.{flat_map}
use Rattle.hc_program.specs.Frames.{proposed_line}
use Rattle.hc_program.proofs.commands.send.push_sent.Given as goal

-- the frames so far are printed
abbrev pub invariant-loop-frame : goal.invariant-loop-frame
invariant-loop-frame l =
    string_bytes l.out ≡ string_bytes l.fn.out ++ flat_map (proposed_line l.core.history) (take l.frame-index l.frames)
