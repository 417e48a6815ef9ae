use Rattle.std.proofs.Common.{◌≡◌, ℕ, ◌-◌, ◌*◌, length, drop}
use Rattle.hc_bits.specs.Bits.{bit_of}
use Rattle.hc_machine.specs.Logical.{bit_written}
use Rattle.hc_machine.proofs.logical.write_bits.Given as goal

abbrev pub invariant-loop-k : goal.invariant-loop-k
invariant-loop-k l =
    (m : ℕ) → bit_of l.memory m ≡ bit_written (drop (length l.fmmus - l.k) l.fmmus) (bit_of l.bytes) l.from (8 * length l.bytes) m (bit_of l.initial.memory m)
