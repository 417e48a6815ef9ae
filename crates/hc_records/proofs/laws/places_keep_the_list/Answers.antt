use Rattle.hc_records.proofs.lemmas.Packed.{packed-areas}
use Rattle.hc_records.proofs.laws.places_keep_the_list.Goals as goal

pub returns : goal.returns
returns c = packed-areas
