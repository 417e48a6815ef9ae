use Rattle.hc_exchange.proofs.lemmas.Frames.{shared-pass}
use Rattle.hc_exchange.proofs.carrying_laws.shared_frames_pass.Goals as goal

pub returns : goal.returns
returns c = shared-pass
