use Rattle.std.proofs.Common.{◌≡◌, ◌+◌, ◌*◌, length}
use Rattle.hc_bits.specs.Bits.{ReplacesRun, bit_of}
use Rattle.hc_bits.proofs.run.copy_octets.Given as goal

abbrev pub invariant-loop-i : goal.invariant-loop-i
invariant-loop-i l =
    (length l.to ≡ length l.initial.to) × ReplacesRun l.initial.to l.to (8 * l.first2) (8 * l.i) (λ k. bit_of l.from (8 * l.first + l.at + k))
