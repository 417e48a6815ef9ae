use Rattle.hc_places.proofs.Changed.{different-apart}
use Rattle.hc_places.proofs.laws.changed_variables_differ.Goals as goal

pub returns : goal.returns
returns c old new variable = different-apart old.variables new.variables variable
