use Rattle.hc_records.proofs.lemmas.Tiles.{image-short}
use Rattle.hc_records.proofs.laws.images_are_short.Goals as goal

pub returns : goal.returns
returns c = image-short
