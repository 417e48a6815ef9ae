use Rattle.std.proofs.Common.{◌+◌, ◌-◌, ◌*◌, ◌≤◌}
use Rattle.std.specs.Int.{bit_at}
use Rattle.hc_bits.specs.Bits.{ReplacesRun}
use Rattle.hc_bits.proofs.run.put_from.Given as goal

abbrev pub invariant-loop-done : goal.invariant-loop-done
invariant-loop-done l = record {
  within : l.done ≤ l.n;
  so_far : ReplacesRun l.initial.bytes l.bytes (8 * l.first + l.at) l.done (bit_at l.value);
}

abbrev pub decreases-loop-done : goal.decreases-loop-done
decreases-loop-done l = l.n - l.done
