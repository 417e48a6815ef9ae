use Rattle.std.proofs.Common.{◌≤◌, vec_len}
use Rattle.std.specs.Io.KnownBytes.{Consumes}
use Rattle.hc_text.specs.declared.input.TheConstants.{MOST_INPUT}
use Rattle.hc_text.proofs.input.read_all.Given as goal

-- what was read so far
abbrev pub invariant-loop : goal.invariant-loop
invariant-loop g l =
    let remaining = g.R.Read.remaining in
    record {
      read : Consumes (remaining l.fn.input) (remaining l.input) l.bytes.items;
      within : vec_len l.bytes ≤ MOST_INPUT;
    }
