use Rattle.std.proofs.Common.{◌∙◌, Option, ap, sym}
use Rattle.std.specs.Prelude.{not}
use Rattle.hc_records.specs.Boundaries.{Interval, meets_hull}
use Rattle.hc_cuts.proofs.UnchangedBy.{met-first, met-never}
use Rattle.hc_cuts.proofs.keeping.first_met.Goals as goal

pub returns-in-Some : goal.returns-in-Some
returns-in-Some c = λ key low.
    met-first (c.in-Some.first, c.in-Some.last) c.args.start key (sym c.is_before.ensures ∙ c.if-not-is_before.true)
    ∙ ap (λ (hull : Option Interval). not (meets_hull hull (c.args.start, key))) (sym c.in-Some.is)

pub returns-in_default : goal.returns-in_default
returns-in_default c = λ key low.
    met-never (c.in-Some.first, c.in-Some.last) c.args.start key (sym c.is_before.ensures ∙ c.if-not-is_before.false) low
    ∙ ap (λ (hull : Option Interval). not (meets_hull hull (c.args.start, key))) (sym c.in-Some.is)
