use Rattle.hc_core.proofs.PartsSent.{parts}
use Rattle.hc_core.proofs.laws.parts_are_the_proposal.Goals as goal

pub returns : goal.returns
returns c = parts
