use Rattle.hc_frames.proofs.lemmas.Spelling.{frame-carried}
use Rattle.hc_frames.proofs.laws.readable_frames_are_carried.Goals as goal

pub returns : goal.returns
returns c = frame-carried
