use Rattle.std.proofs.Common.{arith}
use Rattle.std.proofs.lemmas.Bool.{ltb-true}
use Rattle.hc_sendings.proofs.Sent.{ends-apart}
use Rattle.hc_sendings.proofs.awaited.may_stay.Goals as goal

pub returns : goal.returns
returns c = λ below.
    let last = c.index-frames-frames.result in
    let first = c.index-more-0.result in
    let apart = ltb-true c.serial.result c.serial-2.result below in
    let own = c.serial.ensures in
    let other = c.serial-2.ensures in
    ends-apart c.args.frames.now c.args.more.now last first c.requires.stored c.requires.come c.index-frames-frames.is c.index-more-0.is (omega (arith, apart, own, other))
