use Rattle.hc_exchange.proofs.lemmas.Frames.{frames-pass}
use Rattle.hc_exchange.proofs.carrying_laws.logical_frames_pass.Goals as goal

pub returns : goal.returns
returns c = frames-pass
