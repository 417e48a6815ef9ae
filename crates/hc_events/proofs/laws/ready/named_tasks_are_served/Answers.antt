use Rattle.hc_events.proofs.lemmas.LineBlocks.{named-served}
use Rattle.hc_events.proofs.laws.ready.named_tasks_are_served.Goals as goal

pub returns : goal.returns
returns c = named-served
