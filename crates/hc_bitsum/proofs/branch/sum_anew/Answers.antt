use Rattle.std.proofs.Common.{◌≡◌, ◌≢◌, ◌+◌, ◌-◌, ◌*◌, ◌/◌, ◌^◌, length, set, ap, subst, sym, ◌∙◌, arith, length-set}
use Rattle.hc_bitsum.specs.declared.sum.Sum.{Sum}
use Rattle.hc_bitsum.specs.Branch.{AreForks, IsNode}
use Rattle.hc_bitsum.specs.Sums.{sum_of}
use Rattle.hc_bitsum.proofs.Anew.{fewer-forks, forks-put, forks-stay, leaves-put, leaves-stay}
use Rattle.hc_bitsum.proofs.Nodes.{few-rows, forked-low, node-low}
use Rattle.hc_bitsum.proofs.Parts.{part-one}
use Rattle.hc_bitsum.proofs.Sums.{left-node, node-low_half, node-some, row-node, up-node}
use Rattle.hc_bitsum.proofs.branch.sum_anew.Goals as goal

pub loop-level-init : goal.loop-level-init
loop-level-init c =
    let rows = c.args.rows.now in
    let many = c.requires.many in
    let nodes = c.requires.nodes in
    let inside = c.requires.row in
    let own = c.row_sum.ensures (8 * c.args.row) ∙ ap sum_of (sym (part-one c.args.dir rows c.args.row)) in
    let here : length rows + c.args.row ≡ 2 ^ c.args.levels + c.args.row = omega arith in
    record {
      many = length-set c.args.sums.now (length rows + c.args.row) c.row_sum.result ∙ nodes;
      node = subst (IsNode c.args.levels 0) (sym here) (row-node c.args.levels c.args.row (omega arith));
      leaves = leaves-put c.args.dir rows c.args.sums.now c.args.row c.row_sum.result (omega arith) inside c.requires.rows own;
      forks = forks-stay (length rows) c.args.sums.now (length rows + c.args.row) c.row_sum.result c.requires.forks (omega arith);
    }

pub join-requires-clause-own : goal.join-requires-clause-own
join-requires-clause-own c =
    let levels = c.args.levels in
    let node = c.loop-level.node / 2 in
    let inv = c.loop-level.invariant in
    let up = up-node levels c.loop-level.level c.loop-level.node c.loop-level-test.true inv.node in
    node-low c.args.dir c.args.rows.now c.loop-level.sums node levels (c.loop-level.level + 1 - 1) (2 * node) c.requires.low c.requires.many c.requires.each
    inv.leaves (fewer-forks (length c.args.rows.now) c.loop-level.sums node inv.forks) (left-node levels (c.loop-level.level + 1) node (omega arith) up) (omega arith)

pub join-requires-clause-both : goal.join-requires-clause-both
join-requires-clause-both c =
    let levels = c.args.levels in
    let node = c.loop-level.node / 2 in
    let inv = c.loop-level.invariant in
    let up = up-node levels c.loop-level.level c.loop-level.node c.loop-level-test.true inv.node in
    forked-low c.args.dir c.args.rows.now c.loop-level.sums levels (c.loop-level.level + 1) node c.requires.low c.requires.many c.requires.each
    inv.leaves (fewer-forks (length c.args.rows.now) c.loop-level.sums node inv.forks) up (omega arith) (node-some levels (c.loop-level.level + 1) node up)

pub slice_copy_out-join : goal.slice_copy_out-join
slice_copy_out-join c =
    let inv = c.loop-level.invariant in
    let up = up-node c.args.levels c.loop-level.level c.loop-level.node c.loop-level-test.true inv.node in
    let low = node-low_half c.args.levels c.loop-level.level (c.loop-level.node / 2) up in
    omega arith

pub slice_copy_out-join-in-loop-level : goal.slice_copy_out-join-in-loop-level
slice_copy_out-join-in-loop-level c =
    let inv = c.loop-level.invariant in
    let up = up-node c.args.levels c.loop-level.level c.loop-level.node c.loop-level-test.true inv.node in
    let low = node-low_half c.args.levels c.loop-level.level (c.loop-level.node / 2) up in
    omega arith

pub bounds-sums-node-in-loop-level : goal.bounds-sums-node-in-loop-level
bounds-sums-node-in-loop-level c =
    let inv = c.loop-level.invariant in
    let up = up-node c.args.levels c.loop-level.level c.loop-level.node c.loop-level-test.true inv.node in
    let low = node-low_half c.args.levels c.loop-level.level (c.loop-level.node / 2) up in
    omega arith

pub offset_bounds-sums-node-in-loop-level : goal.offset_bounds-sums-node-in-loop-level
offset_bounds-sums-node-in-loop-level c = grind (arith, few-rows, up-node, node-low_half)

pub offset_bounds-sums-node-in-loop-level-2 : goal.offset_bounds-sums-node-in-loop-level-2
offset_bounds-sums-node-in-loop-level-2 c = grind (arith, few-rows, up-node, node-low_half)

pub offset_bounds-sums-node-in-loop-level-3 : goal.offset_bounds-sums-node-in-loop-level-3
offset_bounds-sums-node-in-loop-level-3 c = grind (arith, few-rows, up-node, node-low_half)

pub loop-level-preserved : goal.loop-level-preserved
loop-level-preserved c =
    let inv = c.loop-level.invariant in
    let rows = c.args.rows.now in
    let sums = c.loop-level.sums in
    let node = c.loop-level.node / 2 in
    let many = inv.many in
    let up = up-node c.args.levels c.loop-level.level c.loop-level.node c.loop-level-test.true inv.node in
    let low = node-low_half c.args.levels c.loop-level.level node up in
    let some = node-some c.args.levels (c.loop-level.level + 1) node up in
    record {
      many = length-set sums node c.join.result ∙ many;
      node = up;
      leaves = leaves-stay c.args.dir rows sums node c.join.result inv.leaves (omega arith);
      forks = subst (λ (own : Sum). AreForks (λ k. k ≢ node / 2) (length rows) (set sums node own)) (sym c.join.ensures) (forks-put (length rows) sums node inv.forks some (omega arith));
    }

pub returns-clause-sums : goal.returns-clause-sums
returns-clause-sums c = grind arith
