use Rattle.std.proofs.Common.{◌-◌, ◌*◌, ◌∙◌, arith}
use Rattle.std.proofs.lemmas.List.{get_or_default}
use Rattle.hc_bitsum.specs.Branch.{node_areas}
use Rattle.hc_bitsum.proofs.Nodes.{beyond-right, end-beyond, few-rows, into-left, into-right, leaf-areas, leaf-row, node-index, read-end, read-low}
use Rattle.hc_bitsum.proofs.Sums.{left-node, right-node}
use Rattle.hc_bitsum.proofs.branch.Branch.fit_below.Goals as goal

pub after_node-end-requires-clause-node : goal.after_node-end-requires-clause-node
after_node-end-requires-clause-node g c =
    let left = left-node c.args.self.now.levels c.loop-height.height c.loop-height.node c.loop-height-test.true c.loop-height.invariant.node in
    let inside = node-index c.args.self.now (c.loop-height.height - 1) (2 * c.loop-height.node) c.requires.branch left in
    inside

pub after_node-end-requires-clause-there : goal.after_node-end-requires-clause-there
after_node-end-requires-clause-there g c =
    let left = left-node c.args.self.now.levels c.loop-height.height c.loop-height.node c.loop-height-test.true c.loop-height.invariant.node in
    read-low c.args.self.now (c.loop-height.height - 1) (2 * c.loop-height.node) c.loop-height.so_far c.requires.branch left (omega arith)

pub loop-height-preserved-then-end-room : goal.loop-height-preserved-then-end-room
loop-height-preserved-then-end-room g c =
    let branch = c.args.self.now in
    let height = c.loop-height.height in
    let node = c.loop-height.node in
    let inv = c.loop-height.invariant in
    let some = c.loop-height-test.true in
    let left = left-node branch.levels height node some inv.node in
    let end = read-end branch (height - 1) (2 * node) c.loop-height.so_far c.after_node-end.result c.requires.branch left c.after_node-end.ensures.end in
    let least = inv.least in
    let most = inv.most in
    record {
      node = right-node branch.levels height node some inv.node;
      fit = into-right branch height node c.args.room c.loop-height.so_far c.after_node-end.result some inv.node end c.if-end-room.true ∙ inv.fit;
      here = c.if-end-room.true;
      beyond = beyond-right branch height node c.args.room c.loop-height.so_far c.after_node-end.result some inv.node end inv.beyond;
      least = omega arith;
      most = omega arith;
    }

pub loop-height-preserved : goal.loop-height-preserved
loop-height-preserved g c =
    let branch = c.args.self.now in
    let height = c.loop-height.height in
    let node = c.loop-height.node in
    let inv = c.loop-height.invariant in
    let some = c.loop-height-test.true in
    let left = left-node branch.levels height node some inv.node in
    let end = read-end branch (height - 1) (2 * node) c.loop-height.so_far c.after_node-end.result c.requires.branch left c.after_node-end.ensures.end in
    let beyond = end-beyond c.loop-height.so_far c.after_node-end.result (node_areas branch (height - 1) (2 * node)) c.args.room end c.if-end-room.false in
    let least = inv.least in
    let most = inv.most in
    record {
      node = left;
      fit = into-left branch height node c.args.room c.loop-height.so_far some inv.node inv.here beyond ∙ inv.fit;
      here = inv.here;
      beyond = beyond;
      least = omega arith;
      most = omega arith;
    }

pub fit_row-requires-clause-place : goal.fit_row-requires-clause-place
fit_row-requires-clause-place g c = grind (arith, leaf-row, few-rows)

pub returns-clause-fit : goal.returns-clause-fit
returns-clause-fit g c = grind (arith, leaf-row, get_or_default, leaf-areas)
