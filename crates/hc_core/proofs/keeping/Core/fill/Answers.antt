use Rattle.std.proofs.Common.{◌∙◌, ap, arith, subst, sym}
use Rattle.hc_frames.specs.Sizes.{frame_bytes}
use Rattle.hc_events.specs.Steps.{sent_text}
use Rattle.hc_core.specs.Records.{history_read}
use Rattle.hc_core.proofs.Fills.{carried-counted, known-tasks}
use Rattle.hc_core.proofs.Values.{text-sent}
use Rattle.hc_core.specs.Filled.{CanBeFilled}
use Rattle.hc_core.specs.State.{CoreState}
use Rattle.hc_core.proofs.keeping.Core.fill.Goals as goal

pub write_values-requires-clause-serial : goal.write_values-requires-clause-serial
write_values-requires-clause-serial c =
    let history = history_read c.self.inside.history in
    let frame = c.args.frame.now in
    let can : CanBeFilled history frame = subst (λ (state : CoreState). CanBeFilled state.history frame) (sym c.self.view_is) c.requires.frame in
    let low = can.serial in omega (arith, low)

pub write_values-requires-clause-known : goal.write_values-requires-clause-known
write_values-requires-clause-known c =
    let history = history_read c.self.inside.history in
    let frame = c.args.frame.now in
    let can : CanBeFilled history frame = subst (λ (state : CoreState). CanBeFilled state.history frame) (sym c.self.view_is) c.requires.frame in
    known-tasks history frame.datagrams c.self.invariant.project can.in_line

pub write_values-requires-clause-size : goal.write_values-requires-clause-size
write_values-requires-clause-size c =
    let history = history_read c.self.inside.history in
    let frame = c.args.frame.now in
    let can : CanBeFilled history frame = subst (λ (state : CoreState). CanBeFilled state.history frame) (sym c.self.view_is) c.requires.frame in
    let same = carried-counted history c.self.inside.outputs frame.datagrams c.self.invariant.project c.self.invariant.uncrowded can.in_line c.self.invariant.values ∙ sym can.counted in
    let within = c.datagrams.ensures.filled.within in omega (arith, same, within)

pub write_values-requires-clause-exact : goal.write_values-requires-clause-exact
write_values-requires-clause-exact c =
    let history = history_read c.self.inside.history in
    let frame = c.args.frame.now in
    let can : CanBeFilled history frame = subst (λ (state : CoreState). CanBeFilled state.history frame) (sym c.self.view_is) c.requires.frame in
    let same = carried-counted history c.self.inside.outputs frame.datagrams c.self.invariant.project c.self.invariant.uncrowded can.in_line c.self.invariant.values ∙ sym can.counted in
    c.requires.exact ∙ ap frame_bytes (sym same)

pub returns : goal.returns
returns c =
    let history = history_read c.self.inside.history in
    let frame = c.args.frame.now in
    let can : CanBeFilled history frame = subst (λ (state : CoreState). CanBeFilled state.history frame) (sym c.self.view_is) c.requires.frame in
    let known = known-tasks history frame.datagrams c.self.invariant.project can.in_line in
    c.write_values.ensures
    ∙ text-sent history c.self.inside.outputs frame c.self.invariant.project c.self.invariant.uncrowded known can.in_line c.self.invariant.values
    ∙ ap (λ (state : CoreState). sent_text state.history frame) c.self.view_is
