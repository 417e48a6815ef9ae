use Rattle.hc_images.proofs.row.lowest.Goals as goal
use Rattle.hc_bits.proofs.lemmas.Bits.{bit_at-and_one}

pub returns-clause-bits : goal.returns-clause-bits
returns-clause-bits c = λ k low. bit_at-and_one c.args.value c.ones.result k (c.ones.ensures.ones k low)
