use Rattle.hc_events.proofs.lemmas.LineBlocks.{few-datagrams}
use Rattle.hc_events.proofs.laws.projects_have_few_datagrams.Goals as goal

pub returns : goal.returns
returns c = few-datagrams
