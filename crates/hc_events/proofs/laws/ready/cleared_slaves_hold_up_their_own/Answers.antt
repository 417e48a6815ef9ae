use Rattle.hc_events.proofs.lemmas.ClearedSlaves.{cleared-serves}
use Rattle.hc_events.proofs.laws.ready.cleared_slaves_hold_up_their_own.Goals as goal

pub returns : goal.returns
returns c since history task block reachable = cleared-serves since history task block reachable.accepted
