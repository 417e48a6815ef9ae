use Rattle.hc_events.proofs.lemmas.Holding.{known-held}
use Rattle.hc_events.proofs.laws.ready.known_is_held.Goals as goal

pub returns : goal.returns
returns c history station number bytes reachable = known-held history station number bytes reachable.accepted
