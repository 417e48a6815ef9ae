use Rattle.hc_records.proofs.lemmas.Stations.{project-distinct}
use Rattle.hc_records.proofs.laws.stations_are_distinct.Goals as goal

pub returns : goal.returns
returns c state = project-distinct state.groups
