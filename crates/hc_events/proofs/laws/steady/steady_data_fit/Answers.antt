use Rattle.hc_events.proofs.lemmas.Steady.{steady-fits}
use Rattle.hc_events.proofs.laws.steady.steady_data_fit.Goals as goal

pub returns : goal.returns
returns c = steady-fits
