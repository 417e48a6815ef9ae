use Rattle.std.proofs.Common.{◌∙◌}
use Rattle.hc_cuts.proofs.Lines.{line-is}
use Rattle.hc_cuts.proofs.Wider.{each-fewer, fewer-wider, line-wider}
use Rattle.hc_cuts.proofs.tasks.LineCuts.widened.Goals as goal

pub all_widened-requires-clause-few : goal.all_widened-requires-clause-few
all_widened-requires-clause-few c = each-fewer c.args.self.now c.as_slice.result.now c.args.slaves (c.as_slice.ensures.value ∙ c.self.view_is) c.requires.fewer

pub invariant_of-result : goal.invariant_of-result
invariant_of-result c =
    line-is c.in_ok-tasks.tasks.items _
    (fewer-wider c.args.slaves c.args.self.now c.as_slice.result.now c.in_ok-tasks.tasks.items c.requires.fewer (c.as_slice.ensures.value ∙ c.self.view_is) c.in_ok-tasks.ensures)

pub returns : goal.returns
returns c = λ line count are_placed many.
    line-wider c.args.slaves count line c.args.self.now c.as_slice.result.now c.in_ok-tasks.tasks.items (c.as_slice.ensures.value ∙ c.self.view_is) are_placed many c.in_ok-tasks.ensures
