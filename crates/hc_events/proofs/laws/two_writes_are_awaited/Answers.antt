use Rattle.hc_events.proofs.lemmas.TwoWrites.{two-writes}
use Rattle.hc_events.proofs.laws.two_writes_are_awaited.Goals as goal

pub returns : goal.returns
returns c history low high older newer reachable = two-writes history low high older newer reachable.accepted
