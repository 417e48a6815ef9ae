use Rattle.std.proofs.Common.{subst, sym}
use Rattle.hc_records.specs.Edits.{state_after}
use Rattle.hc_events.specs.Points.{state_of}
use Rattle.hc_core.specs.Prepared.{CanBeCarriedOut}
use Rattle.hc_core.specs.State.{CoreState}
use Rattle.hc_core.proofs.Edits.{accepted-own}
use Rattle.hc_core.proofs.keeping.Core.prepare.Goals as goal

pub will_wait-waiting-requires : goal.will_wait-waiting-requires
will_wait-waiting-requires c = subst (λ (core : CoreState). CanBeCarriedOut core c.in_ok-planned.planned) (sym c.in_ok-planned.ensures.unchanged) c.in_ok-planned.ensures.planned

pub returns-clause-own : goal.returns-clause-own
returns-clause-own c =
    let old = state_of c.args.self.now.history in
    accepted-own old c.args.edit.now (state_after old c.args.edit.now) _ c.in_ok-planned.ensures.accepted
