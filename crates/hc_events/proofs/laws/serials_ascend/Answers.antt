use Rattle.hc_events.proofs.Serials.{serials-ascend}
use Rattle.hc_events.proofs.laws.serials_ascend.Goals as goal

pub returns : goal.returns
returns c history low high = serials-ascend history low high
