-- The law is the lemma on the top of a document.
use Rattle.hc_project.proofs.Keys.{documents-keys}
use Rattle.hc_project.proofs.laws.documents_read_their_keys.Goals as goal

pub returns : goal.returns
returns c = documents-keys
