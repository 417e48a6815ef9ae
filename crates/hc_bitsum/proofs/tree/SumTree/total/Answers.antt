use Rattle.std.proofs.Common.{◌++◌, sym, ap, ◌∙◌}
use Rattle.hc_bitsum.specs.Branch.{branch_slots}
use Rattle.hc_bitsum.specs.Sums.{sum_of}
use Rattle.hc_bitsum.specs.Tree.{Tree}
use Rattle.hc_bitsum.proofs.Ends.{sum_of-append}
use Rattle.hc_bitsum.proofs.Shape.{both-low, sum-low}
use Rattle.hc_bitsum.proofs.Listed.{total-wide}
use Rattle.hc_bitsum.proofs.tree.SumTree.total.Goals as goal

pub join-requires-clause-own : goal.join-requires-clause-own
join-requires-clause-own c = rw c.total.ensures.sum (sum-low _ c.total.ensures.shaped)

pub join-requires-clause-both : goal.join-requires-clause-both
join-requires-clause-both c =
    rw (c.total.ensures.sum, c.total-2.ensures.sum)
    (both-low (branch_slots c.self.inside.outputs) (branch_slots c.self.inside.inputs) c.total.ensures.shaped c.total-2.ensures.shaped)

pub returns : goal.returns
returns c =
    c.join.ensures
    ∙ rw (c.total.ensures.sum, c.total-2.ensures.sum)
    (sym (sum_of-append (branch_slots c.self.inside.outputs).areas (branch_slots c.self.inside.inputs).areas) ∙ sym (total-wide ((branch_slots c.self.inside.outputs).areas ++ (branch_slots c.self.inside.inputs).areas)))
    ∙ ap (λ (tree : Tree). sum_of tree.list) c.self.view_is
