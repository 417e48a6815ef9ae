use Rattle.std.proofs.Common.{◌≡◌, ◌+◌, ◌-◌, ◌^◌, ap, ◌∙◌, arith}
use Rattle.hc_bitsum.specs.declared.filled.Filled.{Filled}
use Rattle.hc_bitsum.specs.Filling.{filled_with_areas}
use Rattle.hc_bitsum.specs.Rows.{part}
use Rattle.hc_bitsum.proofs.Nodes.{node-index, read-low}
use Rattle.hc_bitsum.proofs.Strides.{high-some, rows-low, is_placed-down, is_placed-next, is_placed-node, is_placed-small, taken, wider}
use Rattle.hc_bitsum.proofs.branch.Branch.descend.Goals as goal
use Rattle.hc_bitsum.proofs.branch.Branch.descend.Goals.{then-row-height, else-row-height}

pub filled_by-so_far-requires-clause-node : goal.filled_by-so_far-requires-clause-node
filled_by-so_far-requires-clause-node c =
    let branch = c.args.self.now in
    let small = is_placed-small branch.levels c.levels.height c.levels.node c.levels.row c.requires.branch.low c.levels.invariant.begins in
    let own = is_placed-node branch.levels c.levels.height c.levels.node c.levels.row c.levels.invariant.begins (omega arith) in
    node-index branch c.levels.height c.levels.node c.requires.branch own

pub filled_by-so_far-requires-clause-here : goal.filled_by-so_far-requires-clause-here
filled_by-so_far-requires-clause-here c = grind (arith, is_placed-small, rows-low)

pub filled_by-so_far-requires-clause-there : goal.filled_by-so_far-requires-clause-there
filled_by-so_far-requires-clause-there c =
    let branch = c.args.self.now in
    let small = is_placed-small branch.levels c.levels.height c.levels.node c.levels.row c.requires.branch.low c.levels.invariant.begins in
    let inv = c.levels.invariant in
    let own = is_placed-node branch.levels c.levels.height c.levels.node c.levels.row inv.begins (omega arith) in
    let low = rows-low branch c.args.from.row c.levels.row c.args.end c.args.from.filled inv.from inv.within in
    let bit = ap (λ (r : Filled). r.bit) inv.so_far in
    read-low branch c.levels.height c.levels.node c.levels.so_far c.requires.branch own (omega arith)

pub returns-then-row-end : goal.returns-then-row-end
returns-then-row-end c =
    let branch = c.args.self.now in
    let height = c.levels.height in
    let node = c.levels.node in
    let row = c.levels.row in
    let inv = c.levels.invariant in
    let from = inv.from in
    let small = is_placed-small branch.levels height node row c.requires.branch.low inv.begins in
    let at = c.if-row-end.true in
    elim c.if-row-height.branch [
      | then-row-height w ↦
          let row-is = w.row-is in
          let filled = taken branch height node c.args.from.row row c.args.from.filled c.levels.so_far w.filled_by-so_far.result c.requires.branch inv.begins from (omega arith) inv.so_far w.filled_by-so_far.ensures in
          let end : row + 2 ^ height - c.args.from.row ≡ c.args.end - c.args.from.row = omega arith in
          w.so_far-is ∙ filled ∙ ap (λ n. filled_with_areas c.args.from.filled (part branch.dir branch.rows.items c.args.from.row n)) end
      | else-row-height w ↦
          let row-is = w.row-is in
          let end : row - c.args.from.row ≡ c.args.end - c.args.from.row = omega arith in
          w.so_far-is ∙ inv.so_far ∙ ap (λ n. filled_with_areas c.args.from.filled (part branch.dir branch.rows.items c.args.from.row n)) end
    ]

pub levels-preserved : goal.levels-preserved
levels-preserved c =
    let branch = c.args.self.now in
    let small = is_placed-small branch.levels c.levels.height c.levels.node c.levels.row c.requires.branch.low c.levels.invariant.begins in
    let height = c.levels.height in
    let node = c.levels.node in
    let row = c.levels.row in
    let inv = c.levels.invariant in
    let within = c.requires.within in
    let from = inv.from in
    let low = inv.within in
    let near = inv.near in
    let wide = wider height in
    let other = c.if-row-end.false in
    elim c.if-row-height.branch [
      | then-row-height w ↦
          let filled = taken branch height node c.args.from.row row c.args.from.filled c.levels.so_far w.filled_by-so_far.result c.requires.branch inv.begins from (omega arith) inv.so_far w.filled_by-so_far.ensures in
          let row-is : c.if-row-height.row ≡ row + 2 ^ height = let is = w.row-is in omega arith in
          let some = high-some height (omega arith) in
          let same : 2 ^ (height - 1 + 1) ≡ 2 ^ height = ap (λ n. 2 ^ n) (omega arith) in
          rw (row-is, w.node-is, w.so_far-is) (record {
            begins = is_placed-down branch.levels height (node + 1) (row + 2 ^ height) some (is_placed-next branch.levels height node row inv.begins);
            from = omega arith;
            within = omega arith;
            near = omega arith;
            so_far = filled;
          })
      | else-row-height w ↦
          let row-is = w.row-is in
          let some = high-some height (omega arith) in
          let same : 2 ^ (height - 1 + 1) ≡ 2 ^ height = ap (λ n. 2 ^ n) (omega arith) in
          rw (w.row-is, w.node-is, w.so_far-is) (record {
            begins = is_placed-down branch.levels height node row some inv.begins;
            from = from;
            within = low;
            near = omega arith;
            so_far = inv.so_far;
          })
    ]
