use Rattle.std.proofs.Common.{◌++◌, List, ap, ◌∙◌}
use Rattle.std.specs.Prelude.{filter}
use Rattle.hc_records.specs.TaskList.{Keyed}
use Rattle.hc_bitsum.specs.Branch.{branch_slots}
use Rattle.hc_bitsum.specs.Filling.{areas_between}
use Rattle.hc_bitsum.specs.Tree.{Tree, has_width}
use Rattle.hc_bitsum.proofs.Between.{both-between}
use Rattle.hc_bitsum.proofs.Unchanged.{holds-list}
use Rattle.hc_bitsum.proofs.tree.SumTree.areas_between.Goals as goal

pub returns-clause-areas : goal.returns-clause-areas
returns-clause-areas c =
    let outputs = (branch_slots c.self.inside.outputs).areas in
    let inputs = (branch_slots c.self.inside.inputs).areas in
    let from = c.args.from in
    let until = c.args.until in
    c.in_ok-add_between-2.ensures
    ∙ ap (λ (xs : List Keyed). xs ++ filter has_width (areas_between from until inputs))
    (c.in_ok-add_between.ensures ∙ ap (λ (xs : List Keyed). xs ++ filter has_width (areas_between from until outputs)) c.new-areas.ensures.items)
    ∙ both-between from until outputs inputs
    ∙ ap (λ (tree : Tree). areas_between from until tree.list) c.self.view_is

pub returns-clause-holds : goal.returns-clause-holds
returns-clause-holds c =
    rw (← c.self.view_is) (holds-list c.self.inside.slaves (branch_slots c.self.inside.outputs) (branch_slots c.self.inside.inputs) c.self.invariant.outs c.self.invariant.ins)
