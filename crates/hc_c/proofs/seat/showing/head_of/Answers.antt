use Rattle.std.proofs.Common.{◌≡◌, ◌∙◌, ap}
use Rattle.hc_records.specs.Line.{State}
use Rattle.hc_events.specs.Steady.{task_epoch}
use Rattle.hc_c.proofs.seat.showing.head_of.Goals as goal

pub returns : goal.returns
returns c =
    let args = c.args in
    let epoch = c.epoch.ensures ∙ ap (λ (state : State). state.epoch) c.plan-plan.ensures.state ∙ c.plan-plan.ensures.epoch in
    let own : c.task_epoch.result ≡ task_epoch args.core.now.history args.task = c.task_epoch.ensures.epoch c.requires in
    λ t. record { epoch = epoch t; task_epoch = own t; first_serial = args.first; taken = args.taken; is_refused = args.is_refused; line = args.line }
