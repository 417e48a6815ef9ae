use Rattle.std.specs.Prelude.{map}
use Rattle.hc_records.proofs.lemmas.Ascending.{keys-below-end}
use Rattle.hc_records.proofs.lemmas.Projects.{project-few}
use Rattle.hc_records.proofs.laws.keys_lie_below_end.Goals as goal

pub returns : goal.returns
returns c state task none = keys-below-end state task (project-few (map (λ declared. declared.group) state.groups) none)
