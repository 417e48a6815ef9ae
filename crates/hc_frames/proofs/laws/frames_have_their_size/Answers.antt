use Rattle.hc_frames.proofs.lemmas.Texts.{length-frame_text}
use Rattle.hc_frames.proofs.laws.frames_have_their_size.Goals as goal

pub returns : goal.returns
returns c = length-frame_text
