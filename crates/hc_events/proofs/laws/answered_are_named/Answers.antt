use Rattle.hc_events.proofs.lemmas.Names.{answered-named}
use Rattle.hc_events.proofs.laws.answered_are_named.Goals as goal

pub returns : goal.returns
returns c history arrival outcomes reachable few answer_given = answered-named history arrival outcomes reachable.accepted few answer_given
