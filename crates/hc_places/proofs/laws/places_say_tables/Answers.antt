use Rattle.hc_places.proofs.Swapped.{tables-answer_given}
use Rattle.hc_places.proofs.laws.places_say_tables.Goals as goal

pub returns : goal.returns
returns c a b first second tasks places = tables-answer_given a b first second tasks places
