use Rattle.hc_events.proofs.lemmas.AwaitedAlone.{one-write}
use Rattle.hc_events.proofs.laws.one_write_is_awaited.Goals as goal

pub returns : goal.returns
returns c history serial other write sending reachable = one-write history serial other write sending reachable.accepted
