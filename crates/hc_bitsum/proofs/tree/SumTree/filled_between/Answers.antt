use Rattle.std.proofs.Common.{ap, arith}
use Rattle.hc_bitsum.specs.declared.filled.Filled.{Filled}
use Rattle.hc_bitsum.specs.Branch.{branch_slots}
use Rattle.hc_bitsum.proofs.Shape.{few}
use Rattle.hc_bitsum.proofs.Stretches.{filled-both, filled-few}
use Rattle.hc_bitsum.proofs.tree.SumTree.filled_between.Goals as goal

pub filled_between-outputs-requires-clause-there : goal.filled_between-outputs-requires-clause-there
filled_between-outputs-requires-clause-there c =
    let shape = c.self.invariant.outs.shape in
    let many = few (branch_slots c.self.inside.outputs) shape in
    let end = filled-few c.args.from c.args.until c.args.filled (branch_slots c.self.inside.outputs).areas shape.narrow in
    omega arith

pub filled_between-requires-clause-there : goal.filled_between-requires-clause-there
filled_between-requires-clause-there c =
    let shape = c.self.invariant.outs.shape in
    let many = few (branch_slots c.self.inside.outputs) shape in
    let end = filled-few c.args.from c.args.until c.args.filled (branch_slots c.self.inside.outputs).areas shape.narrow in
    let bit = ap (λ (r : Filled). r.bit) c.filled_between-outputs.ensures in
    let shape' = c.self.invariant.ins.shape in
    let many' = few (branch_slots c.self.inside.inputs) shape' in
    let end' = filled-few c.args.from c.args.until c.filled_between-outputs.result (branch_slots c.self.inside.inputs).areas shape'.narrow in
    let here = c.requires in
    omega arith

pub returns : goal.returns
returns c = grind (arith, filled-both)
