use Rattle.std.proofs.Common.{ℕ, ap, sym, subst, ◌∙◌}
use Rattle.std.specs.Prelude.{slice_index_or}
use Rattle.hc_cuts.specs.Hulls.{are_none, no_hulls}
use Rattle.hc_cuts.specs.LineKeeping.{Before, IsKnownBefore}
use Rattle.hc_cuts.proofs.WidthsApplied.{says-touched}
use Rattle.hc_cuts.proofs.line_keeping.Before.is_touched.Goals as goal

pub returns : goal.returns
returns c = λ old new is_placed.
    let own = subst (λ (before : Before). IsKnownBefore old new before) (sym c.self.view_is) is_placed in
    let hulls = c.self.inside.hulls in
    says-touched c.args.task old new (slice_index_or hulls c.args.task no_hulls) c.are_none.result (own.hulls c.args.task c.as_index.ensures.below)
    (c.are_none.ensures ∙ ap (λ (task : ℕ). are_none (slice_index_or hulls task no_hulls)) c.as_index.ensures.value)
