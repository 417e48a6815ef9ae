use Rattle.hc_bits.proofs.Numbers.{word_ones}
use Rattle.hc_bits.proofs.word.ones.Goals as goal

pub returns : goal.returns
returns c = word_ones c.args.n c.requires.within
