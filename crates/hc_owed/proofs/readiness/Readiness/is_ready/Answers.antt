use Rattle.std.proofs.Common.{List, subst, ◌∙◌}
use Rattle.hc_owed.specs.declared.area.JudgedArea.{JudgedArea}
use Rattle.hc_owed.specs.Tally.{Tallies}
use Rattle.hc_owed.proofs.Tallies.{free-right}
use Rattle.hc_owed.proofs.readiness.Readiness.is_ready.Goals as goal

pub returns : goal.returns
returns c = λ known held unplugged state is.
    let tally = c.self.inside.tally in
    let counts = subst (λ (l : List JudgedArea). Tallies l tally) c.self.view_is c.self.invariant.0 in
    c.is_free.ensures ∙ free-right known held unplugged state c.args.self.now tally c.args.task c.requires counts is
