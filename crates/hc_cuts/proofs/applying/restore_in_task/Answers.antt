use Rattle.std.proofs.Common.{◌∙◌}
use Rattle.hc_cuts.specs.TaskCuts.{starts_by, tree_by}
use Rattle.hc_cuts.proofs.WidthsApplied.{unchanged-is}
use Rattle.hc_cuts.proofs.WidthsApply.{set-applied}
use Rattle.hc_cuts.proofs.applying.restore_in_task.Goals as goal

pub returns : goal.returns
returns c = λ old new lines is_placed starts.
    unchanged-is c.put_starts.new.self (tree_by c.args.task new) (starts_by c.args.task new)
    (c.put_starts.ensures.areas
    ∙ set-applied c.args.task c.args.change.now old new c.args.cuts.now c.set_widths.new.cuts lines is_placed c.set_widths.ensures)
    (c.put_starts.ensures.starts ∙ starts)
