use Rattle.std.proofs.Common.{◌≡◌, ℕ, ◌+◌, ◌-◌, ◌*◌, ◌<◌, ◌≤◌, ◌^◌}
use Rattle.std.specs.Int.{bit_at}
use Rattle.hc_bits.specs.Bits.{bit_of}
use Rattle.hc_bits.proofs.run.get_from.Given as goal

abbrev pub invariant-loop-done : goal.invariant-loop-done
invariant-loop-done l = record {
  within : l.done ≤ l.n;
  fits : l.value < 2 ^ l.done;
  bits : (k : ℕ) → k < l.done → bit_at l.value k ≡ bit_of l.bytes (8 * l.first + l.at + k);
}

abbrev pub decreases-loop-done : goal.decreases-loop-done
decreases-loop-done l = l.n - l.done
