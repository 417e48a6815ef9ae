use Rattle.hc_events.proofs.lemmas.Frames.{proposals-numbered}
use Rattle.hc_events.proofs.laws.proposals_are_numbered.Goals as goal

pub returns : goal.returns
returns c = proposals-numbered
