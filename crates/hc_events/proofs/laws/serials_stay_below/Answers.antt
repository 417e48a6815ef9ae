use Rattle.hc_events.proofs.Serials.{serials-stay_below}
use Rattle.hc_events.proofs.laws.serials_stay_below.Goals as goal

pub returns : goal.returns
returns c history serial sending reachable = serials-stay_below history serial sending reachable.few
