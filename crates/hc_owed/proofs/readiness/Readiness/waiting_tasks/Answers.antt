use Rattle.std.proofs.Common.{List, subst}
use Rattle.hc_owed.specs.declared.area.JudgedArea.{JudgedArea}
use Rattle.hc_owed.specs.Tally.{Tallies}
use Rattle.hc_owed.proofs.Foretelling.{declared-waiting}
use Rattle.hc_owed.proofs.Tallies.{are-waiting}
use Rattle.hc_owed.proofs.readiness.Readiness.waiting_tasks.Goals as goal

pub returns-clause-now : goal.returns-clause-now
returns-clause-now c =
    let tally = c.self.inside.tally in
    let counts = subst (λ (l : List JudgedArea). Tallies l tally) c.self.view_is c.self.invariant.0 in
    are-waiting c.args.self.now tally c.free.result c.others.result counts c.free.ensures c.others.ensures

pub returns-clause-declared : goal.returns-clause-declared
returns-clause-declared c = λ room can.
    let tally = c.self.inside.tally in
    let counts = subst (λ (l : List JudgedArea). Tallies l tally) c.self.view_is c.self.invariant.0 in
    declared-waiting c.args.self.now room tally c.free.result c.others.result can counts c.free.ensures c.others.ensures
