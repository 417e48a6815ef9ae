use Rattle.hc_events.proofs.lemmas.Views.{legal-joined, legal-parts}
use Rattle.hc_events.proofs.laws.legal_lists_join.Goals as goal

pub returns : goal.returns
returns c state first second = (legal-parts state first second, λ both. legal-joined state first second both.0 both.1)
