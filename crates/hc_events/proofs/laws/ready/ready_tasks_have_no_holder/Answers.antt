use Rattle.hc_events.proofs.Holders.{ready-holders}
use Rattle.hc_events.proofs.laws.ready.ready_tasks_have_no_holder.Goals as goal

pub returns : goal.returns
returns c = ready-holders
