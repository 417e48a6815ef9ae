use Rattle.hc_events.proofs.DoneWrites.{done-known}
use Rattle.hc_events.proofs.laws.done_writes_are_known.Goals as goal

pub returns : goal.returns
returns c = done-known
