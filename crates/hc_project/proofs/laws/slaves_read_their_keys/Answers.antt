-- The law is the lemma on a slave.
use Rattle.hc_project.proofs.Keys.{slaves-keys}
use Rattle.hc_project.proofs.laws.slaves_read_their_keys.Goals as goal

pub returns : goal.returns
returns c = slaves-keys
