use Rattle.hc_events.proofs.AsAtFirstEvents.{answered-first}
use Rattle.hc_events.proofs.laws.events_without_forgetting.Goals as goal

pub returns : goal.returns
returns c groups steps = answered-first groups steps
