use Rattle.std.proofs.Common.{List, subst, ◌∙◌}
use Rattle.hc_owed.specs.declared.area.JudgedArea.{JudgedArea}
use Rattle.hc_owed.specs.Readiness.{may_be_sent}
use Rattle.hc_owed.specs.Tally.{Tallies, counts_none}
use Rattle.hc_owed.proofs.Tallies.{free-right}
use Rattle.hc_owed.proofs.TaskLists.{same-where}
use Rattle.hc_owed.proofs.readiness.Readiness.ready.Goals as goal

pub returns : goal.returns
returns c = λ known held unplugged state is.
    let tally = c.self.inside.tally in
    let counts = subst (λ (l : List JudgedArea). Tallies l tally) c.self.view_is c.self.invariant.0 in
    c.free.ensures ∙ same-where (counts_none tally) (may_be_sent known held unplugged state) (λ t low. free-right known held unplugged state c.args.self.now tally t low counts is)
