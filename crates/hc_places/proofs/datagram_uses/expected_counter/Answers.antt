use Rattle.std.proofs.Common.{arith}
use Rattle.std.proofs.lemmas.List.{drop_all}
use Rattle.hc_places.proofs.datagram_uses.expected_counter.Goals as goal

pub returns : goal.returns
returns c = omega (arith, rw (drop_all c.loop-area.area-index c.args.areas.now c.loop-area-test.false) at c.loop-area.invariant)
