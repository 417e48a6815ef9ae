use Rattle.hc_events.proofs.Sizes.{write-frames-filled}
use Rattle.hc_events.proofs.laws.write_frames_fill_their_bytes.Goals as goal

pub returns : goal.returns
returns c = write-frames-filled
