use Rattle.hc_rings.proofs.lemmas.Written.{overwritten_whole}
use Rattle.hc_rings.proofs.laws.written_bytes_are_there.Goals as goal

pub returns : goal.returns
returns c = overwritten_whole
