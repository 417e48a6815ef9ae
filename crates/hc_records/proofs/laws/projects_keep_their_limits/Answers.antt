use Rattle.hc_records.proofs.lemmas.Limits.{project-inside}
use Rattle.hc_records.proofs.laws.projects_keep_their_limits.Goals as goal

pub returns : goal.returns
returns c = project-inside
