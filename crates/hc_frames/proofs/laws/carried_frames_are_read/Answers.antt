use Rattle.hc_frames.proofs.lemmas.Readings.{frame-read}
use Rattle.hc_frames.proofs.laws.carried_frames_are_read.Goals as goal

pub returns : goal.returns
returns c = frame-read
