use Rattle.hc_core.proofs.FewFrames.{proposal-few}
use Rattle.hc_core.proofs.laws.proposals_are_few.Goals as goal

pub returns : goal.returns
returns c = proposal-few
