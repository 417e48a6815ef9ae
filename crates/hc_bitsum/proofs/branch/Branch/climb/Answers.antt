use Rattle.std.proofs.Common.{◌≡◌, ◌+◌, ◌-◌, ◌%◌, ◌^◌, ◌∙◌, ap, arith}
use Rattle.hc_bitsum.specs.declared.filled.Filled.{Filled}
use Rattle.hc_bitsum.specs.Filling.{filled_with_areas}
use Rattle.hc_bitsum.specs.Rows.{part}
use Rattle.hc_bitsum.proofs.Nodes.{node-index, read-low}
use Rattle.hc_bitsum.proofs.Strides.{no-rows, power-some, rows-low, is_placed-leaf, is_placed-next, is_placed-node, is_placed-small, is_placed-up, taken, wider}
use Rattle.hc_bitsum.proofs.branch.Branch.climb.Goals as goal
use Rattle.hc_bitsum.proofs.branch.Branch.climb.Goals.{then-node-eq1, else-node-eq1}

pub returns-then-first-eq0 : goal.returns-then-first-eq0
returns-then-first-eq0 c =
    let branch = c.args.self.now in
    let levels = branch.levels in
    let many = c.requires.branch.many in
    let within = c.requires.within in
    let from = c.if-first-eq0.true in
    let none : levels - levels ≡ 0 = omega arith in
    let one : 2 ^ (levels - levels) ≡ 1 = ap (λ n. 2 ^ n) none in
    let wide = wider levels in
    let some = power-some levels in
    record {
      begins = record { index = 0; high = omega arith; here = omega arith; first = omega arith };
      from = omega arith;
      within = omega arith;
      near = omega arith;
      so_far =
          no-rows branch c.args.first c.args.filled
          ∙ ap (λ n. filled_with_areas c.args.filled (part branch.dir branch.rows.items c.args.first n)) (omega arith);
    }

pub loop-height-init : goal.loop-height-init
loop-height-init c = grind (arith, is_placed-leaf, no-rows)

pub filled_by-so_far-requires-clause-node : goal.filled_by-so_far-requires-clause-node
filled_by-so_far-requires-clause-node c =
    let branch = c.args.self.now in
    let small = is_placed-small branch.levels c.loop-height.height c.loop-height.node c.loop-height.row c.requires.branch.low c.loop-height.invariant.begins in
    let own = is_placed-node branch.levels c.loop-height.height c.loop-height.node c.loop-height.row c.loop-height.invariant.begins (omega arith) in
    node-index branch c.loop-height.height c.loop-height.node c.requires.branch own

pub filled_by-so_far-requires-clause-here : goal.filled_by-so_far-requires-clause-here
filled_by-so_far-requires-clause-here c = grind (arith, is_placed-small, rows-low)

pub filled_by-so_far-requires-clause-there : goal.filled_by-so_far-requires-clause-there
filled_by-so_far-requires-clause-there c =
    let branch = c.args.self.now in
    let small = is_placed-small branch.levels c.loop-height.height c.loop-height.node c.loop-height.row c.requires.branch.low c.loop-height.invariant.begins in
    let inv = c.loop-height.invariant in
    let own = is_placed-node branch.levels c.loop-height.height c.loop-height.node c.loop-height.row inv.begins (omega arith) in
    let low = rows-low branch c.args.first c.loop-height.row c.args.end c.args.filled inv.from inv.within in
    let bit = ap (λ (r : Filled). r.bit) inv.so_far in
    read-low branch c.loop-height.height c.loop-height.node c.loop-height.so_far c.requires.branch own (omega arith)

pub loop-height-preserved : goal.loop-height-preserved
loop-height-preserved c =
    let branch = c.args.self.now in
    let small = is_placed-small branch.levels c.loop-height.height c.loop-height.node c.loop-height.row c.requires.branch.low c.loop-height.invariant.begins in
    let height = c.loop-height.height in
    let node = c.loop-height.node in
    let row = c.loop-height.row in
    let inv = c.loop-height.invariant in
    let less = c.loop-height-test.true in
    let within = c.requires.within in
    let from = inv.from in
    elim c.if-node-eq1.branch [
      | then-node-eq1 w ↦
          let row-is : c.if-node-eq1.row ≡ row + 2 ^ height = let is = w.row-is in omega arith in
          let node-is = w.node-is in
          let next = is_placed-next branch.levels height node row inv.begins in
          let filled = taken branch height node c.args.first row c.args.filled c.loop-height.so_far w.filled_by-so_far.result c.requires.branch inv.begins from (omega arith) inv.so_far w.filled_by-so_far.ensures in
          rw (row-is, node-is, w.so_far-is) (record {
            begins = is_placed-up branch.levels height (node + 1) (row + 2 ^ height) less (omega arith) next;
            from = omega arith;
            within = omega arith;
            so_far = filled;
          })
      | else-node-eq1 w ↦
          let even : node % 2 ≡ 0 = let other = w.if-node-eq1.false in omega arith in
          let row-is = w.row-is in
          let node-is = w.node-is in
          rw (row-is, node-is, w.so_far-is) (record {
            begins = is_placed-up branch.levels height node row less even inv.begins;
            from = from;
            within = inv.within;
            so_far = inv.so_far;
          })
    ]

pub returns-after-loop-height : goal.returns-after-loop-height
returns-after-loop-height c = grind (arith, is_placed-small, wider, power-some)
