use Rattle.hc_groups.proofs.lemmas.Accepted.{accepted-project}
use Rattle.hc_groups.proofs.laws.accepted_edits_keep_projects.Goals as goal

pub returns : goal.returns
returns c = accepted-project
