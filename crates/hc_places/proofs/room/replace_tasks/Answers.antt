use Rattle.std.proofs.lemmas.List.{drop_all}
use Rattle.hc_places.proofs.room.replace_tasks.Goals as goal

pub returns : goal.returns
returns c = rw (drop_all c.loop-change.change-index c.args.changed.now c.loop-change-test.false) at c.loop-change.invariant.is
