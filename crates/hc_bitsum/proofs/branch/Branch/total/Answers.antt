use Rattle.std.proofs.Common.{◌<◌, length, ap, ◌∙◌, arith}
use Rattle.std.proofs.lemmas.List.{get_or_default}
use Rattle.hc_bitsum.specs.declared.sum.Sum.TheVariants.{Empty}
use Rattle.hc_bitsum.specs.Sums.{sum_of}
use Rattle.hc_bitsum.proofs.Nodes.{is-node-sum, root-areas, shaped}
use Rattle.hc_bitsum.proofs.Sums.{node-inside, root-node}
use Rattle.hc_bitsum.proofs.branch.Branch.total.Goals as goal

pub returns-clause-sum : goal.returns-clause-sum
returns-clause-sum c =
    let branch = c.args.self.now in
    let root = root-node branch.levels in
    let below = node-inside branch.levels branch.levels 1 root in
    let inside : 1 < length branch.sums.items = omega arith in
    c.index.ensures ∙ get_or_default branch.sums.items 1 c.index.result.now Empty inside
    ∙ is-node-sum branch branch.levels 1 c.requires root (omega arith) ∙ ap sum_of (root-areas branch c.requires)

pub returns-clause-shaped : goal.returns-clause-shaped
returns-clause-shaped c = shaped c.args.self.now c.requires
