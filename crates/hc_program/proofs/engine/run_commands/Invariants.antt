use Rattle.std.proofs.Common.{◌≡◌, ◌≤◌, ◌+◌, false}
use Rattle.std.specs.Option.{option_copied}
use Rattle.hc_text.specs.Cutting.{left_in, lines_after}
use Rattle.hc_program.specs.Declaring.{turns_of}
use Rattle.hc_program.specs.Runs.{run}
use Rattle.hc_program.specs.Starved.{StarvedRun}
use Rattle.hc_program.specs.Turns.{Continues}
use Rattle.hc_text.specs.declared.input.TheConstants.{MOST_INPUT}
use Rattle.hc_program.proofs.Starved.{Leads, Left}
use Rattle.hc_program.proofs.engine.run_commands.Given as goal

abbrev pub invariant-loop-rest : goal.invariant-loop-rest
invariant-loop-rest g l =
    let contents = g.W.Write.contents in
    record {
      few : l.number + left_in (option_copied l.rest) ≤ MOST_INPUT + 2;
      runs : l.starved ≡ false
          → Continues (contents l.fn.output) (contents l.output) (run l.session (turns_of (lines_after l.number (option_copied l.rest)))) (run l.fn.session (turns_of (lines_after l.first (option_copied l.fn.lines))));
      starves : Leads (contents l.fn.output) (contents l.output) (Left l.starved l.session (turns_of (lines_after l.number (option_copied l.rest)))) (StarvedRun l.fn.session (turns_of (lines_after l.first (option_copied l.fn.lines))));
    }

abbrev pub decreases-loop-rest : goal.decreases-loop-rest
decreases-loop-rest g l = left_in (option_copied l.rest)
