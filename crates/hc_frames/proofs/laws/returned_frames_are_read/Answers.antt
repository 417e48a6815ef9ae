use Rattle.hc_frames.proofs.lemmas.Returns.{returned-sent}
use Rattle.hc_frames.proofs.laws.returned_frames_are_read.Goals as goal

pub returns : goal.returns
returns c = returned-sent
