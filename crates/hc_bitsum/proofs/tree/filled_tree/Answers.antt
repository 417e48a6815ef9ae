use Rattle.hc_bitsum.proofs.More.{tree-next}
use Rattle.hc_bitsum.proofs.tree.filled_tree.Goals as goal

pub set-requires-clause-place : goal.set-requires-clause-place
set-requires-clause-place c = rw c.loop-area.invariant (c.requires.holds.places c.loop-area.area-index _ c.loop-area-test.true)

pub set-requires-clause-narrow : goal.set-requires-clause-narrow
set-requires-clause-narrow c = (c.requires.holds.list.packable c.loop-area.area-index _ c.loop-area-test.true).narrow

pub loop-area-preserved : goal.loop-area-preserved
loop-area-preserved c =
    tree-next c.args.slaves c.loop-area.area-index c.args.areas.now _ c.loop-area.tree c.set.new.self c.requires.holds.list c.loop-area-test.true c.loop-area.invariant c.set.ensures.set
