use Rattle.hc_events.proofs.Proposals.{frames-found}
use Rattle.hc_events.proofs.laws.sent_frames_are_found.Goals as goal

pub returns : goal.returns
returns c = frames-found
