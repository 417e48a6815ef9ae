use Rattle.hc_events.proofs.lemmas.Views.{legal-epochs}
use Rattle.hc_events.proofs.laws.legal_epochs_fit.Goals as goal

pub returns : goal.returns
returns c = legal-epochs
