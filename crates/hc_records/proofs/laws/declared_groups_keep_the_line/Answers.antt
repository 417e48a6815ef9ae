use Rattle.hc_records.proofs.lemmas.Declaring.{line-absent}
use Rattle.hc_records.proofs.laws.declared_groups_keep_the_line.Goals as goal

pub returns : goal.returns
returns c = line-absent 1
