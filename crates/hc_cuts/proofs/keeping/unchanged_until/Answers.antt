use Rattle.std.proofs.Common.{ℕ, ap, ◌∙◌}
use Rattle.hc_cuts.specs.Keeping.{is_unchanged_up_to_by}
use Rattle.hc_cuts.proofs.UnchangedBy.{unchanged-up_to}
use Rattle.hc_cuts.proofs.keeping.unchanged_until.Goals as goal

pub returns : goal.returns
returns c = λ old new known key low.
    c.unchanged_until_by.ensures key low
    ∙ ap (λ (n : ℕ). is_unchanged_up_to_by c.args.hulls.now c.args.old_starts.now c.args.new_starts.now n key) c.from.ensures
    ∙ unchanged-up_to c.args.hulls.now c.args.old_starts.now c.args.new_starts.now c.args.number old new known.list known.old_boundaries known.new_boundaries known.differ key
