use Rattle.hc_records.proofs.lemmas.Packable.{project-packable}
use Rattle.hc_records.proofs.laws.projects_are_packable.Goals as goal

pub returns : goal.returns
returns c = project-packable
