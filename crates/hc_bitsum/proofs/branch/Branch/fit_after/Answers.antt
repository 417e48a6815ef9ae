use Rattle.std.proofs.Common.{◌+◌, arith}
use Rattle.hc_bitsum.specs.Branch.{node_areas}
use Rattle.hc_bitsum.proofs.Nodes.{after_it-found, after_it-same, after_it-through, beyond-in, end-beyond, node-index, read-end, read-low}
use Rattle.hc_bitsum.proofs.Sums.{next-node, up-node}
use Rattle.hc_bitsum.proofs.branch.Branch.fit_after.Goals as goal
use Rattle.hc_bitsum.proofs.branch.Branch.fit_after.Goals.{then-node-eq0+else-end-room, else-node-eq0}

pub after_node-end-requires-clause-node : goal.after_node-end-requires-clause-node
after_node-end-requires-clause-node g c =
    let next = next-node c.args.self.now.levels c.loop-height.height c.loop-height.node c.loop-height-test.true c.if-node-eq0.true c.loop-height.invariant.node in
    let inside = node-index c.args.self.now c.loop-height.height (c.loop-height.node + 1) c.requires.branch next in
    inside

pub after_node-end-requires-clause-there : goal.after_node-end-requires-clause-there
after_node-end-requires-clause-there g c = grind (arith, next-node, read-low)

pub fit_below-requires-clause-node : goal.fit_below-requires-clause-node
fit_below-requires-clause-node g c =
    next-node c.args.self.now.levels c.loop-height.height c.loop-height.node c.loop-height-test.true c.if-node-eq0.true c.loop-height.invariant.node

pub fit_below-requires-clause-beyond : goal.fit_below-requires-clause-beyond
fit_below-requires-clause-beyond g c = grind (arith, next-node, read-end, end-beyond)

pub returns-then-end-room-clause-fit : goal.returns-then-end-room-clause-fit
returns-then-end-room-clause-fit g c = grind (arith, next-node, read-end, end-beyond, after_it-found)

pub returns-then-end-room-clause-end : goal.returns-then-end-room-clause-end
returns-then-end-room-clause-end g c =
    let branch = c.args.self.now in
    let next = next-node branch.levels c.loop-height.height c.loop-height.node c.loop-height-test.true c.if-node-eq0.true c.loop-height.invariant.node in
    let end = read-end branch c.loop-height.height (c.loop-height.node + 1) c.loop-height.so_far c.after_node-end.result c.requires.branch next c.after_node-end.ensures.end in
    beyond-in c.args.room c.loop-height.so_far (node_areas branch c.loop-height.height (c.loop-height.node + 1)) c.fit_below.result c.loop-height.invariant.here
    (end-beyond c.loop-height.so_far c.after_node-end.result (node_areas branch c.loop-height.height (c.loop-height.node + 1)) c.args.room end c.if-end-room.true) c.fit_below.ensures.fit

pub loop-height-preserved : goal.loop-height-preserved
loop-height-preserved g c = grind (arith, next-node, read-end, up-node, after_it-through, after_it-same)
