use Rattle.hc_frames.proofs.lemmas.Replaced.{frame-filled}
use Rattle.hc_frames.proofs.laws.blank_frames_are_filled.Goals as goal

pub returns : goal.returns
returns c = frame-filled
