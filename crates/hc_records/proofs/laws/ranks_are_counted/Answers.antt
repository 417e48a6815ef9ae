use Rattle.hc_records.proofs.lemmas.Slaves.{project-counted}
use Rattle.hc_records.proofs.laws.ranks_are_counted.Goals as goal

pub returns : goal.returns
returns c = project-counted
