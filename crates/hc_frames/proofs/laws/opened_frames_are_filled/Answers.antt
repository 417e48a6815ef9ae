use Rattle.hc_frames.proofs.Filling.{filled_frame}
use Rattle.hc_frames.proofs.laws.opened_frames_are_filled.Goals as goal

pub returns : goal.returns
returns c = filled_frame
