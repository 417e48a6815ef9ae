-- The law is the lemma on a PDO.
use Rattle.hc_project.proofs.Keys.{pdos-keys}
use Rattle.hc_project.proofs.laws.pdos_read_their_keys.Goals as goal

pub returns : goal.returns
returns c = pdos-keys
