use Rattle.hc_c.proofs.LinesLed.{seats-see}
use Rattle.hc_c.proofs.laws.seats_see_the_state.Goals as goal

pub returns : goal.returns
returns c = seats-see
