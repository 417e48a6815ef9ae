use Rattle.hc_groups.proofs.LineLists.{written-step}
use Rattle.hc_groups.proofs.line.write_stations.Goals as goal

pub loop-i-preserved : goal.loop-i-preserved
loop-i-preserved c =
    written-step c.args.list.now c.loop-i.list c.args.position c.args.slaves.now c.loop-i.i c.index-slaves-i.result c.requires c.loop-i-test.true c.loop-i.invariant
