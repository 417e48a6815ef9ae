use Rattle.std.proofs.Common.{List, sym, subst}
use Rattle.hc_records.specs.declared.keys.Key.{Key}
use Rattle.hc_cuts.specs.Areas.{areas_by_rank}
use Rattle.hc_cuts.specs.ApplyWidths.{AreStartsOf}
use Rattle.hc_plan.proofs.WidthsApplied.{edited_line-back}
use Rattle.hc_plan.proofs.line_widths.restore_line_widths.Goals as goal

pub returns : goal.returns
returns c =
    let it = c.args.edited.now in
    let known = subst (λ (starts : List (List Key)). AreStartsOf (areas_by_rank it.old) starts) (sym c.starts.ensures) c.requires.known.starts in
    c.restore_widths.ensures (areas_by_rank it.new) (areas_by_rank it.old)
    (edited_line-back it c.args.cuts.now c.change.result.now c.back-back.result c.starts.result.now c.requires.edited c.requires.trees known c.change.ensures c.back-back.ensures)

pub restore_widths-requires : goal.restore_widths-requires
restore_widths-requires c =
    let it = c.args.edited.now in
    let known = subst (λ (starts : List (List Key)). AreStartsOf (areas_by_rank it.old) starts) (sym c.starts.ensures) c.requires.known.starts in
    record {
      old = areas_by_rank it.new;
      new = areas_by_rank it.old;
      restore_widths = edited_line-back it c.args.cuts.now c.change.result.now c.back-back.result c.starts.result.now c.requires.edited c.requires.trees known c.change.ensures c.back-back.ensures;
    }
