use Rattle.hc_places.proofs.Changed.{different-once}
use Rattle.hc_places.proofs.laws.changed_variables_occur_once.Goals as goal

pub returns : goal.returns
returns c old new before after = different-once old.variables new.variables before after
