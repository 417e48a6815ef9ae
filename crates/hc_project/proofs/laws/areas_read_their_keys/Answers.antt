-- The law is the lemma on an area.
use Rattle.hc_project.proofs.Keys.{areas-keys}
use Rattle.hc_project.proofs.laws.areas_read_their_keys.Goals as goal

pub returns : goal.returns
returns c = areas-keys
