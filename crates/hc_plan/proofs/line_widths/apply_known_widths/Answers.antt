use Rattle.hc_cuts.specs.Areas.{areas_by_rank}
use Rattle.hc_plan.proofs.WidthsApplied.{edited_line-restore_widths}
use Rattle.hc_plan.proofs.line_widths.apply_known_widths.Goals as goal

pub returns : goal.returns
returns c =
    let it = c.args.edited.now in
    c.restore_widths.ensures (areas_by_rank it.old) (areas_by_rank it.new)
    (edited_line-restore_widths it c.args.cuts.now c.change.result.now c.args.starts.now c.requires.edited c.requires.trees c.requires.starts c.change.ensures)
