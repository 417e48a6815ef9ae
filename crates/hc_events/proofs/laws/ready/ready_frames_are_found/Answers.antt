use Rattle.hc_events.proofs.Proposals.{ready-found}
use Rattle.hc_events.proofs.laws.ready.ready_frames_are_found.Goals as goal

pub returns : goal.returns
returns c = ready-found
