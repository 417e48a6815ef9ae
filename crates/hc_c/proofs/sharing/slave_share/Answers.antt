use Rattle.std.proofs.Common.{◌∙◌, ap}
use Rattle.hc_records.specs.Line.{State, line}
use Rattle.hc_plan.specs.Shares.{share_at}
use Rattle.hc_c.specs.Shares.{slave_share}
use Rattle.hc_c.proofs.sharing.slave_share.Goals as goal

pub returns : goal.returns
unfolding slave_share
returns c = c.counter_share.ensures.value ∙ ap (λ (state : State). share_at (line state) c.args.task c.args.datagram c.args.station) c.plan.ensures.state
