use Rattle.std.proofs.Common.{◌∙◌}
use Rattle.hc_records.specs.Boundaries.{Interval, meets_hull}
use Rattle.hc_cuts.proofs.UnchangedBy.{met-either}
use Rattle.hc_cuts.proofs.keeping.first_met_of_either.Goals as goal

pub returns : goal.returns
returns c = λ key low.
    let hulls = c.args.hulls.now in
    let interval : Interval = (c.args.start, key) in
    c.lower.ensures key ∙ met-either (meets_hull hulls.outputs interval) (meets_hull hulls.inputs interval) (c.first_met.ensures key low) (c.first_met-2.ensures key low)
