use Rattle.hc_exchange.proofs.lemmas.ReadyFrames.{ready-good}
use Rattle.hc_exchange.proofs.holding_laws.ready_frames_come_back_good.Goals as goal

pub returns : goal.returns
returns c = ready-good
