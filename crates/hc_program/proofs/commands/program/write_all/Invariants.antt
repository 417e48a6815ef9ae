use Rattle.std.proofs.Common.{◌≡◌, ◌≤◌, ◌+◌}
use Rattle.hc_frames.specs.declared.limits.TheConstants.{SETUP_SERIAL}
use Rattle.hc_program.specs.Programs.{programmed, serials_left_count}
use Rattle.hc_program.specs.Stops.{WritesAreDone}
use Rattle.hc_program.proofs.Programming.{plus}
use Rattle.hc_program.proofs.commands.program.write_all.Given as goal

-- the writes so far were done, and with those that follow they are all; no more than serials are left
abbrev pub invariant-loop-count : goal.invariant-loop-count
invariant-loop-count g l = record {
  reached : WritesAreDone l.count l.fn.session l.session;
  whole : plus l.count (programmed l.session) ≡ programmed l.fn.session;
  few : l.count + serials_left_count l.session.history ≤ SETUP_SERIAL;
}

abbrev pub decreases-loop-count : goal.decreases-loop-count
decreases-loop-count g l = serials_left_count l.session.history
