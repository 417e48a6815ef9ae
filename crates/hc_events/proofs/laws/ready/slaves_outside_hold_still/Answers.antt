use Rattle.hc_events.proofs.lemmas.ClearedSlaves.{held-still}
use Rattle.hc_events.proofs.laws.ready.slaves_outside_hold_still.Goals as goal

pub returns : goal.returns
returns c since history station reachable = held-still since history station reachable.accepted
