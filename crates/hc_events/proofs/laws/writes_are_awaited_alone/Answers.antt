use Rattle.hc_events.proofs.lemmas.AwaitedAlone.{writes-alone}
use Rattle.hc_events.proofs.laws.writes_are_awaited_alone.Goals as goal

pub returns : goal.returns
returns c history serial other write sending reachable = writes-alone history serial other write sending reachable.accepted
