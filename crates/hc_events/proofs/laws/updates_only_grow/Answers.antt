use Rattle.hc_events.proofs.Grown.{updates-grow}
use Rattle.hc_events.proofs.laws.updates_only_grow.Goals as goal

pub returns : goal.returns
returns c = updates-grow
