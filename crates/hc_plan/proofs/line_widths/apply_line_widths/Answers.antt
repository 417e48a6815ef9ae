use Rattle.std.proofs.Common.{◌∙◌, None, Some, sym}
use Rattle.std.proofs.lemmas.Result.{IfErr-weaker, IfOk-weaker, on_ok_weaker}
use Rattle.hc_cuts.specs.Areas.{areas_by_rank}
use Rattle.hc_cuts.proofs.lemmas.Projects.{line-recut}
use Rattle.hc_plan.proofs.WidthsApplied.{over_limit-line, edited_line-apply_widths}
use Rattle.hc_plan.proofs.line_widths.apply_line_widths.Goals as goal

pub apply_widths-requires : goal.apply_widths-requires
apply_widths-requires g c =
    let it = c.args.edited.now in
    record {
      old = areas_by_rank it.old;
      new = areas_by_rank it.new;
      apply_widths = edited_line-apply_widths it c.args.cuts.now c.change.result.now c.requires.edited c.requires.trees c.requires.fits c.change.ensures;
    }

pub returns-clause-applied : goal.returns-clause-applied
returns-clause-applied g c =
    let it = c.args.edited.now in
    let apply_widths = edited_line-apply_widths it c.args.cuts.now c.change.result.now c.requires.edited c.requires.trees c.requires.fits c.change.ensures in
    c.apply_widths.ensures.applied (areas_by_rank it.old) (areas_by_rank it.new) apply_widths

pub returns-clause-accepted : goal.returns-clause-accepted
returns-clause-accepted g c =
    let it = c.args.edited.now in
    let apply_widths = edited_line-apply_widths it c.args.cuts.now c.change.result.now c.requires.edited c.requires.trees c.requires.fits c.change.ensures in
    on_ok_weaker c.apply_widths.result (over_limit-line it.new None) (c.apply_widths.ensures.accepted (areas_by_rank it.old) (areas_by_rank it.new) apply_widths)

pub returns-clause-recut : goal.returns-clause-recut
returns-clause-recut g c =
    let it = c.args.edited.now in
    let apply_widths = edited_line-apply_widths it c.args.cuts.now c.change.result.now c.requires.edited c.requires.trees c.requires.fits c.change.ensures in
    IfOk-weaker c.apply_widths.result _ _ (λ unsettled is. is ∙ sym (line-recut it.old it.new)) (c.apply_widths.ensures.recut (areas_by_rank it.old) (areas_by_rank it.new) apply_widths)

pub returns-clause-refused : goal.returns-clause-refused
returns-clause-refused g c =
    let it = c.args.edited.now in
    let apply_widths = edited_line-apply_widths it c.args.cuts.now c.change.result.now c.requires.edited c.requires.trees c.requires.fits c.change.ensures in
    IfErr-weaker c.apply_widths.result _ _ (λ task is. over_limit-line it.new (Some task) is) (c.apply_widths.ensures.refused (areas_by_rank it.old) (areas_by_rank it.new) apply_widths)
