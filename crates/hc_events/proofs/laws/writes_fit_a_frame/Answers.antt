use Rattle.hc_events.proofs.lemmas.AwaitedAlone.{write-blocks}
use Rattle.hc_events.proofs.laws.writes_fit_a_frame.Goals as goal

pub returns : goal.returns
returns c history serial sending reachable = write-blocks history serial sending reachable.accepted
