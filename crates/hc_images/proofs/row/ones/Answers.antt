use Rattle.hc_images.proofs.Masks.{ones-below, ones-bit}
use Rattle.hc_images.proofs.row.ones.Goals as goal

pub returns-clause-below : goal.returns-clause-below
returns-clause-below c = ones-below c.args.bits c.requires.most

pub returns-clause-ones : goal.returns-clause-ones
returns-clause-ones c = λ k low. ones-bit c.args.bits k c.requires.most low
