use Rattle.std.proofs.Common.{List, sum_by, ap, ◌∙◌}
use Rattle.std.specs.Prelude.{slice_index}
use Rattle.hc_owed.specs.declared.area.JudgedArea.{JudgedArea}
use Rattle.hc_owed.specs.Areas.{blocks_waited}
use Rattle.hc_owed.proofs.Waits.{waiting-right}
use Rattle.hc_owed.proofs.readiness.Readiness.waiting.Goals as goal

pub returns : goal.returns
returns c = λ known held unplugged state is.
    ap (slice_index c.self.inside.tally.blocks) c.from.ensures ∙ c.self.invariant.0.0 c.args.task c.requires ∙ ap (λ (l : List JudgedArea). sum_by (blocks_waited c.args.task) l) c.self.view_is
    ∙ waiting-right known held unplugged state c.args.self.now c.args.task c.requires is
