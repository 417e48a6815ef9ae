use Rattle.hc_events.proofs.lemmas.StaleStays.{stale-stays}
use Rattle.hc_events.proofs.laws.stale_stays_stale.Goals as goal

pub returns : goal.returns
returns c = stale-stays
