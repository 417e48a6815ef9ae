use Rattle.hc_records.specs.Packing.{empty_front, packed}
use Rattle.hc_records.proofs.lemmas.Tiles.{tiles-image}
use Rattle.hc_records.proofs.laws.datagrams_tile_the_image.Goals as goal

pub returns : goal.returns
returns c list = tiles-image (packed empty_front list)
