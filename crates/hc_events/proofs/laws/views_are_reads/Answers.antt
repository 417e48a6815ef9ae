use Rattle.hc_events.proofs.lemmas.Views.{views-are_reads}
use Rattle.hc_events.proofs.laws.views_are_reads.Goals as goal

pub returns : goal.returns
returns c history changes task reachable = views-are_reads history changes task reachable.accepted
