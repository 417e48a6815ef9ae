use Rattle.hc_events.proofs.Ready.{sent-alike}
use Rattle.hc_events.proofs.laws.ready.both_events_send_alike.Goals as goal

pub returns : goal.returns
returns c = sent-alike
