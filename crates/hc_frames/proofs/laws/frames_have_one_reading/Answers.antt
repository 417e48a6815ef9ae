use Rattle.hc_frames.proofs.lemmas.Returns.{one-reading}
use Rattle.hc_frames.proofs.laws.frames_have_one_reading.Goals as goal

pub returns : goal.returns
returns c = one-reading
