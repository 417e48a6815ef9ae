use Rattle.hc_events.proofs.lemmas.Frames.{frames-sized}
use Rattle.hc_events.proofs.laws.frames_have_their_sizes.Goals as goal

pub returns : goal.returns
returns c = frames-sized
