use Rattle.hc_events.proofs.lemmas.Ages.{serials-of_data}
use Rattle.hc_events.proofs.laws.serials_are_of_data.Goals as goal

pub returns : goal.returns
returns c = serials-of_data
