use Rattle.std.proofs.Common.{List, ap, ◌∙◌}
use Rattle.hc_records.specs.Packing.{Placed}
use Rattle.hc_places.specs.Layout.{placed_in}
use Rattle.hc_places.proofs.lemmas.Layouts.{placed-answer_given}
use Rattle.hc_cuts.specs.Areas.{areas_by_rank}
use Rattle.hc_plan.proofs.placed_line.PlacedLine.placed.Goals as goal

pub returns : goal.returns
returns c =
    let groups = c.self.inside.groups.now in
    c.place.ensures (areas_by_rank groups) c.self.invariant
    ∙ placed-answer_given groups c.args.task c.args.key c.number.ensures.below
    ∙ ap (λ (layout : List (List Placed)). placed_in layout c.args.task c.args.key) c.self.view_is
