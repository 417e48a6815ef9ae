use Rattle.hc_c.proofs.LinesLed.{states-tell}
use Rattle.hc_c.proofs.laws.states_tell_last_data.Goals as goal

pub returns : goal.returns
returns c = states-tell
