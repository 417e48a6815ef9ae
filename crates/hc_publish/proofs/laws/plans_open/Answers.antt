use Rattle.hc_publish.proofs.lemmas.Openings.{is-opening, opened-groups}
use Rattle.hc_publish.proofs.laws.plans_open.Goals as goal

pub returns : goal.returns
returns c groups = (is-opening groups, opened-groups groups)
