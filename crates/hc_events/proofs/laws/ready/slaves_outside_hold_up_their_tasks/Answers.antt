use Rattle.hc_events.proofs.lemmas.ClearedSlaves.{outside-waits}
use Rattle.hc_events.proofs.laws.ready.slaves_outside_hold_up_their_tasks.Goals as goal

pub returns : goal.returns
returns c = outside-waits
