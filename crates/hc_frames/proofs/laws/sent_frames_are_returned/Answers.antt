use Rattle.hc_frames.proofs.lemmas.Returns.{sent-returned}
use Rattle.hc_frames.proofs.laws.sent_frames_are_returned.Goals as goal

pub returns : goal.returns
returns c = sent-returned
