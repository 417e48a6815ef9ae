use Rattle.std.proofs.Common.{◌≡◌, ◌≤◌, ◌+◌, ◌*◌, ◌++◌, take, string_bytes}
use Rattle.std.specs.List.{flat_map}
use Rattle.std.specs.String.{string_capacity, string_len}
use Rattle.hc_program.specs.Answers.{outcome_text}
use Rattle.hc_program.specs.declared.commands.arrive.TheConstants.{LONGEST_OUTCOME}
use Rattle.hc_program.proofs.commands.arrive.add_outcomes.Given as goal

-- the outcomes so far are printed, and there is room for the others
abbrev pub invariant-loop-outcome : goal.invariant-loop-outcome
invariant-loop-outcome l = record {
  bytes : string_bytes l.out ≡ string_bytes l.fn.out ++ flat_map outcome_text (take l.outcome-index l.outcomes);
  len : string_len l.out ≤ string_len l.fn.out + LONGEST_OUTCOME * l.outcome-index;
  room : string_capacity l.fn.out ≤ string_capacity l.out;
}
