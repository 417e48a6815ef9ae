use Rattle.hc_cuts.proofs.Setting.{key-set}
use Rattle.hc_cuts.proofs.widths.set_key.Goals as goal

pub returns : goal.returns
returns c =
    rw (← c.slave_width-bits.ensures.value)
    (key-set c.args.cuts.now c.set.new.self c.args.key c.slave_width-bits.result c.requires.holds c.set.ensures.areas c.set.ensures.starts c.set.ensures.holds)
