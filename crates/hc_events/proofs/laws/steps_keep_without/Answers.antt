use Rattle.hc_events.specs.Stale.{without_stale}
use Rattle.hc_events.proofs.lemmas.SameAfter.{same-after, same-without}
use Rattle.hc_events.proofs.laws.steps_keep_without.Goals as goal

pub returns : goal.returns
returns c history step = same-after history (without_stale history) step (same-without history)
