use Rattle.hc_events.proofs.lemmas.WithoutStale.{without-stale}
use Rattle.hc_events.proofs.laws.stale_is_judged_without.Goals as goal

pub returns : goal.returns
returns c = without-stale
