use Rattle.hc_events.proofs.Sizes.{frames-filled}
use Rattle.hc_events.proofs.laws.frames_fill_their_bytes.Goals as goal

pub returns : goal.returns
returns c = frames-filled
