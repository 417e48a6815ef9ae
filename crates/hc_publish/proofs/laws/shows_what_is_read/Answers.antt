use Rattle.hc_publish.proofs.Read.{shows-history}
use Rattle.hc_publish.proofs.laws.shows_what_is_read.Goals as goal

pub returns : goal.returns
returns c history changes reachable = shows-history history changes reachable.accepted
