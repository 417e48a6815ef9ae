use Rattle.std.proofs.lemmas.List.{take_all}
use Rattle.hc_places.proofs.middle.append.Goals as goal

pub returns : goal.returns
returns c = rw (take_all c.loop-row.row-index c.args.more.now c.loop-row-test.false) at c.loop-row.invariant.is
