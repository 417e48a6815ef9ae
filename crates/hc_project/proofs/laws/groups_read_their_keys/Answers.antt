-- The law is the lemma on a group.
use Rattle.hc_project.proofs.Keys.{groups-keys}
use Rattle.hc_project.proofs.laws.groups_read_their_keys.Goals as goal

pub returns : goal.returns
returns c = groups-keys
