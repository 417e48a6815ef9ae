use Rattle.hc_events.proofs.lemmas.LineBlocks.{own-names}
use Rattle.hc_events.proofs.laws.projects_have_own_names.Goals as goal

pub returns : goal.returns
returns c = own-names
