use Rattle.std.proofs.lemmas.List.{drop_all}
use Rattle.hc_cuts.proofs.repair.following.Goals as goal

pub returns : goal.returns
returns c = rw (drop_all c.loop-i.i c.args.starts.now c.loop-i-test.false) at c.loop-i.invariant
