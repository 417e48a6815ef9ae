use Rattle.std.proofs.Common.{Some, ◌≤◌, ◌+◌}
use Rattle.std.specs.Option.{option_copied}
use Rattle.hc_text.specs.Cutting.{Skips, left_in, lines_after}
use Rattle.hc_text.specs.declared.input.TheConstants.{MOST_INPUT}
use Rattle.hc_text.proofs.lines.split_at_mark.Given as goal

abbrev pub invariant-loop-rest : goal.invariant-loop-rest
invariant-loop-rest l = record {
  skipped : Skips l.input (lines_after l.number (Some l.input)) l.next (option_copied l.rest);
  few : l.next + left_in (option_copied l.rest) ≤ MOST_INPUT + 2;
}

abbrev pub decreases-loop-rest : goal.decreases-loop-rest
decreases-loop-rest l = left_in (option_copied l.rest)
