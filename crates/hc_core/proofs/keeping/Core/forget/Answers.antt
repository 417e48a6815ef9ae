use Rattle.std.proofs.Common.{◌≡◌, ◌∙◌, Ok, Err, None, ap, sym, subst, true}
use Rattle.hc_records.specs.Line.{State}
use Rattle.hc_records.specs.Lists.{lowest}
use Rattle.hc_plan.specs.Configuration.{position_of}
use Rattle.hc_events.specs.Owed.{is_in_line}
use Rattle.hc_events.specs.Points.{state_of}
use Rattle.hc_events.specs.Steps.{forget_faults}
use Rattle.hc_core.proofs.Forgotten.{forget-accepted, forget-inside, forget-refused, refused-named}
use Rattle.hc_core.specs.Records.{history_read}
use Rattle.hc_core.specs.State.{CoreState}
use Rattle.hc_core.proofs.keeping.Core.forget.Goals as goal

pub returns-in_err-position-clause-refused : goal.returns-in_err-position-clause-refused
returns-in_err-position-clause-refused c =
    let history = history_read c.self.inside.history in
    let station = c.args.station in
    let fault = c.in_err-position.field-0.0 in
    let refused : position_of (state_of history) station ≡ Err fault =
    ap (λ (state : State). position_of state station) (sym c.self.invariant.state) ∙ sym c.position.ensures ∙ c.in_err-position.was in
    refused-named c.from_residual.result (lowest (forget_faults c.args.self.now.history station)) fault c.from_residual.ensures.1
    (ap (λ (state : CoreState). lowest (forget_faults state.history station)) (sym c.self.view_is) ∙ forget-refused history station fault refused)

pub forget_known-requires : goal.forget_known-requires
forget_known-requires c =
    let history = history_read c.self.inside.history in
    let station = c.args.station in
    let found : position_of (state_of history) station ≡ Ok c.in_ok-position.field-0 =
    ap (λ (state : State). position_of state station) (sym c.self.invariant.state) ∙ sym c.position.ensures ∙ c.in_ok-position.was in
    subst (λ (state : CoreState). is_in_line state.history station ≡ true) c.self.view_is (forget-inside history station c.in_ok-position.field-0 found)

pub returns-clause-accepted : goal.returns-clause-accepted
returns-clause-accepted c =
    let history = history_read c.self.inside.history in
    let station = c.args.station in
    let found : position_of (state_of history) station ≡ Ok c.in_ok-position.field-0 =
    ap (λ (state : State). position_of state station) (sym c.self.invariant.state) ∙ sym c.position.ensures ∙ c.in_ok-position.was in
    subst (λ (state : CoreState). lowest (forget_faults state.history station) ≡ None) c.self.view_is (forget-accepted history station c.in_ok-position.field-0 found)
