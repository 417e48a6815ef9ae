use Rattle.std.proofs.Common.{ap, ◌∙◌, arith}
use Rattle.hc_bitsum.specs.Branch.{node_areas}
use Rattle.hc_bitsum.specs.Search.{scan}
use Rattle.hc_bitsum.proofs.Nodes.{beyond-in, end-beyond, node-index, read-end, read-low, root-areas}
use Rattle.hc_bitsum.proofs.Scan.{scan-all}
use Rattle.hc_bitsum.proofs.Sums.{root-node}
use Rattle.hc_bitsum.proofs.branch.Branch.fit_all.Goals as goal

pub after_node-end-requires-clause-node : goal.after_node-end-requires-clause-node
after_node-end-requires-clause-node g c = node-index c.args.self.now c.args.self.now.levels 1 c.requires.branch (root-node c.args.self.now.levels)

pub after_node-end-requires-clause-there : goal.after_node-end-requires-clause-there
after_node-end-requires-clause-there g c =
    read-low c.args.self.now c.args.self.now.levels 1 c.args.filled c.requires.branch (root-node c.args.self.now.levels) (omega arith)

pub returns-then-end-room-clause-fit : goal.returns-then-end-room-clause-fit
returns-then-end-room-clause-fit g c = grind (arith, read-end, root-node, root-areas, scan-all)

pub fit_below-requires-clause-beyond : goal.fit_below-requires-clause-beyond
fit_below-requires-clause-beyond g c = grind (arith, read-end, root-node, end-beyond)

pub returns-clause-fit : goal.returns-clause-fit
returns-clause-fit g c = c.fit_below.ensures.fit ∙ ap (scan c.args.room c.args.filled) (root-areas c.args.self.now c.requires.branch)

pub returns-clause-end : goal.returns-clause-end
returns-clause-end g c =
    let branch = c.args.self.now in
    let end = read-end branch branch.levels 1 c.args.filled c.after_node-end.result c.requires.branch (root-node branch.levels) c.after_node-end.ensures.end in
    beyond-in c.args.room c.args.filled (node_areas branch branch.levels 1) c.fit_below.result c.requires.here
    (end-beyond c.args.filled c.after_node-end.result (node_areas branch branch.levels 1) c.args.room end c.if-end-room.false) c.fit_below.ensures.fit
