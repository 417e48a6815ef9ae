use Rattle.hc_records.proofs.lemmas.Declaring.{declared-keep}
use Rattle.hc_records.proofs.laws.declared_groups_keep_projects.Goals as goal

pub returns : goal.returns
returns c = declared-keep
