use Rattle.hc_frames.proofs.lemmas.Returns.{built-read}
use Rattle.hc_frames.proofs.laws.built_frames_are_read.Goals as goal

pub returns : goal.returns
returns c = built-read
