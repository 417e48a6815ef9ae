use Rattle.hc_events.specs.Stale.{without_stale}
use Rattle.hc_events.proofs.lemmas.SameAfter.{same-after_it, same-without}
use Rattle.hc_events.proofs.laws.stale_arrivals_can_go.Goals as goal

pub returns : goal.returns
returns c history steps = same-after_it history (without_stale history) steps (same-without history)
