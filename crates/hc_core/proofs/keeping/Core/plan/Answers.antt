use Rattle.std.proofs.Common.{◌≡◌, ◌≤◌, ℕ, subst}
use Rattle.hc_frames.specs.declared.limits.TheConstants.{SETUP_SERIAL}
use Rattle.hc_events.specs.Accepted.{IsReachable}
use Rattle.hc_events.specs.Points.{epoch_of, state_of}
use Rattle.hc_events.proofs.lemmas.Epochs.{epochs-counted}
use Rattle.hc_core.specs.Records.{history_read}
use Rattle.hc_core.specs.State.{CoreState}
use Rattle.hc_core.proofs.keeping.Core.plan.Goals as goal

pub returns-clause-reachable : goal.returns-clause-reachable
returns-clause-reachable c =
    subst (λ (state : CoreState). IsReachable state.history) c.self.view_is
    (record {
      accepted = c.self.invariant.accepted;
      few = subst (λ (n : ℕ). n ≤ SETUP_SERIAL) c.self.invariant.serial c.self.invariant.left;
    })

pub returns-clause-epoch : goal.returns-clause-epoch
returns-clause-epoch c =
    subst (λ (state : CoreState). (state_of state.history).epoch ≡ epoch_of state.history) c.self.view_is
    (epochs-counted (history_read c.self.inside.history) c.self.invariant.accepted)
