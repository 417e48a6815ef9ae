use Rattle.std.proofs.Common.{◌≡◌, ◌∙◌, ℕ, List, ap, arith, subst, sym}
use Rattle.std.specs.Prelude.{IfOk}
use Rattle.hc_events.specs.Steps.{sent_text}
use Rattle.hc_core.specs.Records.{history_read}
use Rattle.hc_core.proofs.Fills.{carried-counted, known-tasks}
use Rattle.hc_core.proofs.Values.{text-sent}
use Rattle.hc_core.specs.Filled.{CanBeFilled}
use Rattle.hc_core.specs.State.{CoreState}
use Rattle.hc_core.proofs.keeping.Core.text.Goals as goal

pub values_text-requires-clause-serial : goal.values_text-requires-clause-serial
values_text-requires-clause-serial c =
    let history = history_read c.self.inside.history in
    let frame = c.args.frame.now in
    let can : CanBeFilled history frame = subst (λ (state : CoreState). CanBeFilled state.history frame) (sym c.self.view_is) c.requires in
    let low = can.serial in omega (arith, low)

pub values_text-requires-clause-known : goal.values_text-requires-clause-known
values_text-requires-clause-known c =
    let history = history_read c.self.inside.history in
    let frame = c.args.frame.now in
    let can : CanBeFilled history frame = subst (λ (state : CoreState). CanBeFilled state.history frame) (sym c.self.view_is) c.requires in
    known-tasks history frame.datagrams c.self.invariant.project can.in_line

pub values_text-requires-clause-size : goal.values_text-requires-clause-size
values_text-requires-clause-size c =
    let history = history_read c.self.inside.history in
    let frame = c.args.frame.now in
    let can : CanBeFilled history frame = subst (λ (state : CoreState). CanBeFilled state.history frame) (sym c.self.view_is) c.requires in
    let same = carried-counted history c.self.inside.outputs frame.datagrams c.self.invariant.project c.self.invariant.uncrowded can.in_line c.self.invariant.values ∙ sym can.counted in
    let within = c.datagrams.ensures.filled.within in omega (arith, same, within)

pub returns : goal.returns
returns c =
    let history = history_read c.self.inside.history in
    let frame = c.args.frame.now in
    let can : CanBeFilled history frame = subst (λ (state : CoreState). CanBeFilled state.history frame) (sym c.self.view_is) c.requires in
    let known = known-tasks history frame.datagrams c.self.invariant.project can.in_line in
    let same = text-sent history c.self.inside.outputs frame c.self.invariant.project c.self.invariant.uncrowded known can.in_line c.self.invariant.values
    ∙ ap (λ (state : CoreState). sent_text state.history frame) c.self.view_is in
    subst (λ (whole : List ℕ). IfOk c.values_text.result (λ (text : List ℕ). text ≡ whole)) same c.values_text.ensures
