use Rattle.hc_events.proofs.Returned.{returns-well}
use Rattle.hc_events.proofs.laws.returned_frames_answer.Goals as goal

pub returns : goal.returns
returns c = returns-well
