use Rattle.std.proofs.Common.{◌≡◌, ℕ, ◌+◌, ◌-◌, ◌*◌, ◌<◌, length, drop}
use Rattle.hc_bits.specs.Bits.{bit_of}
use Rattle.hc_machine.specs.Logical.{bit_read}
use Rattle.hc_machine.proofs.logical.read_bits.Given as goal

abbrev pub invariant-loop-k : goal.invariant-loop-k
invariant-loop-k l =
    (x : ℕ) → x < 8 * length l.initial.bytes
    → bit_of l.bytes x ≡ bit_read (drop (length l.fmmus - l.k) l.fmmus) (bit_of l.memory) (l.from + x) (bit_of l.initial.bytes x)
