use Rattle.std.proofs.Common.{◌≡◌, ◌∙◌, Ok, Err, ap, sym, subst, true, false}
use Rattle.hc_records.specs.Edits.{is_declared_station}
use Rattle.hc_records.specs.Line.{State}
use Rattle.hc_plan.specs.Configuration.{position_of}
use Rattle.hc_events.specs.Owed.{is_in_line}
use Rattle.hc_events.specs.Points.{state_of}
use Rattle.hc_core.proofs.Forgotten.{station-absent, station-found, station-unknown}
use Rattle.hc_core.specs.Records.{history_read}
use Rattle.hc_core.specs.State.{CoreState}
use Rattle.hc_core.proofs.keeping.Core.is_in_line.Goals as goal

pub returns-in-Ok-clause-declared : goal.returns-in-Ok-clause-declared
returns-in-Ok-clause-declared c =
    let history = history_read c.self.inside.history in
    let found : position_of (state_of history) c.args.station ≡ Ok c.in-Ok.field-0 =
    ap (λ (state : State). position_of state c.args.station) (sym c.self.invariant.state) ∙ sym c.position.ensures ∙ c.in-Ok.is in
    subst (λ (state : CoreState). is_declared_station (state_of state.history) c.args.station ≡ true) c.self.view_is (station-found history c.args.station c.in-Ok.field-0 found).0

pub returns-in-Ok-clause-line : goal.returns-in-Ok-clause-line
returns-in-Ok-clause-line c =
    let history = history_read c.self.inside.history in
    let found : position_of (state_of history) c.args.station ≡ Ok c.in-Ok.field-0 =
    ap (λ (state : State). position_of state c.args.station) (sym c.self.invariant.state) ∙ sym c.position.ensures ∙ c.in-Ok.is in
    sym (subst (λ (state : CoreState). is_in_line state.history c.args.station ≡ true) c.self.view_is (station-found history c.args.station c.in-Ok.field-0 found).1)

pub returns-in-Err-clause-line : goal.returns-in-Err-clause-line
returns-in-Err-clause-line c =
    let history = history_read c.self.inside.history in
    let found : position_of (state_of history) c.args.station ≡ Err c.in-Err.fault =
    ap (λ (state : State). position_of state c.args.station) (sym c.self.invariant.state) ∙ sym c.position.ensures ∙ c.in-Err.is in
    sym (subst (λ (state : CoreState). is_in_line state.history c.args.station ≡ false) c.self.view_is (station-absent history c.args.station c.in-Err.fault found (sym c.is_absent.ensures ∙ c.if-is_absent.true)).1)

pub returns-in-Err-clause-declared : goal.returns-in-Err-clause-declared
returns-in-Err-clause-declared c =
    let history = history_read c.self.inside.history in
    let found : position_of (state_of history) c.args.station ≡ Err c.in-Err.fault =
    ap (λ (state : State). position_of state c.args.station) (sym c.self.invariant.state) ∙ sym c.position.ensures ∙ c.in-Err.is in
    subst (λ (state : CoreState). is_declared_station (state_of state.history) c.args.station ≡ true) c.self.view_is (station-absent history c.args.station c.in-Err.fault found (sym c.is_absent.ensures ∙ c.if-is_absent.true)).0

pub returns-in-Err-2-clause-refused : goal.returns-in-Err-2-clause-refused
returns-in-Err-2-clause-refused c =
    let history = history_read c.self.inside.history in
    let found : position_of (state_of history) c.args.station ≡ Err c.in-Err.fault =
    ap (λ (state : State). position_of state c.args.station) (sym c.self.invariant.state) ∙ sym c.position.ensures ∙ c.in-Err.is in
    let is = station-unknown history c.args.station c.in-Err.fault found (sym c.is_absent.ensures ∙ c.if-is_absent.false) in
    (c.from.ensures ∙ is.0, subst (λ (state : CoreState). is_declared_station (state_of state.history) c.args.station ≡ false) c.self.view_is is.1)
