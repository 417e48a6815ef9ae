use Rattle.hc_events.proofs.lemmas.Frames.{proposals-carry}
use Rattle.hc_events.proofs.laws.proposals_carry_the_tasks.Goals as goal

pub returns : goal.returns
returns c = proposals-carry
