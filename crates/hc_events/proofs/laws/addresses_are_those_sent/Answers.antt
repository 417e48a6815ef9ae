use Rattle.hc_events.proofs.lemmas.Names.{addresses-sent}
use Rattle.hc_events.proofs.laws.addresses_are_those_sent.Goals as goal

pub returns : goal.returns
returns c = addresses-sent
