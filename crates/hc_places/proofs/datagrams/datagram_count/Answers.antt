use Rattle.std.proofs.lemmas.List.{drop_all}
use Rattle.hc_places.proofs.datagrams.datagram_count.Goals as goal

pub returns : goal.returns
returns c = rw (drop_all c.loop-area.area-index c.args.areas.now c.loop-area-test.false) at c.loop-area.invariant
