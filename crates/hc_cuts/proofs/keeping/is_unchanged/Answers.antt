use Rattle.std.proofs.Common.{ap, ◌∙◌}
use Rattle.hc_cuts.specs.Keeping.{is_unchanged_by}
use Rattle.hc_cuts.proofs.UnchangedBy.{unchanged-by}
use Rattle.hc_cuts.proofs.keeping.is_unchanged.Goals as goal

pub returns : goal.returns
returns c = λ old new known.
    c.is_unchanged_by.ensures
    ∙ ap (is_unchanged_by c.args.hulls.now c.args.old_starts.now c.args.new_starts.now) c.from.ensures
    ∙ unchanged-by c.args.hulls.now c.args.old_starts.now c.args.new_starts.now c.args.number old new known.list known.old_boundaries known.new_boundaries known.differ
