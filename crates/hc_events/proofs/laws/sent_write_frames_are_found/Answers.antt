use Rattle.hc_events.proofs.Proposals.{write-frames-found}
use Rattle.hc_events.proofs.laws.sent_write_frames_are_found.Goals as goal

pub returns : goal.returns
returns c = write-frames-found
