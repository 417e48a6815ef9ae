use Rattle.std.proofs.Common.{◌≡◌, ◌+◌, drop}
use Rattle.hc_registers.specs.Counting.{counted_from}
use Rattle.hc_places.specs.DatagramUses.{counted_inside, keys_inside}
use Rattle.hc_places.proofs.datagram_uses.expected_counter.Given as goal

abbrev pub invariant-loop-area : goal.invariant-loop-area
invariant-loop-area l =
    l.count + counted_from l.before (keys_inside l.number (drop l.area-index l.areas)) ≡ counted_inside l.number l.areas
