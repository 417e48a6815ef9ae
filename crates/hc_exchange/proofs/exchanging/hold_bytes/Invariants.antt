use Rattle.std.proofs.Common.{All, take}
use Rattle.hc_bits.specs.Bits.{AreBytes}
use Rattle.hc_exchange.proofs.exchanging.hold_bytes.Given as goal

abbrev pub invariant-loop-machine : goal.invariant-loop-machine
invariant-loop-machine l = All AreBytes (take l.machine-index l.fn.segment)
