use Rattle.std.proofs.Common.{◌≡◌, ◌++◌, drop, string_bytes, take}
use Rattle.hc_program.specs.Cycles.{arrivals_text, cycle_arrived}
use Rattle.hc_program.proofs.commands.cycle.take_all_in.Given as goal

-- the frames so far were taken in and answered, and with those that are left they are all
abbrev pub invariant-loop-frame : goal.invariant-loop-frame
invariant-loop-frame l = record {
  text : string_bytes l.out ++ arrivals_text l.session.history (drop l.frame-index l.frames) ≡ string_bytes l.fn.out ++ arrivals_text l.fn.session.history l.frames;
  rest : cycle_arrived l.session (drop l.frame-index l.frames) ≡ cycle_arrived l.fn.session l.frames;
  reached : l.session ≡ cycle_arrived l.fn.session (take l.frame-index l.frames);
}
