use Rattle.hc_events.proofs.Ready.{ready-where_none}
use Rattle.hc_events.proofs.laws.ready.ready_where_nothing_is_owed.Goals as goal

pub returns : goal.returns
returns c = ready-where_none
