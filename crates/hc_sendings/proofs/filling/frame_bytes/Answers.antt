use Rattle.std.proofs.Common.{List, ap, arith}
use Rattle.hc_events.specs.Sendings.{Named}
use Rattle.hc_sendings.specs.Texts.{Data, carried_bytes}
use Rattle.hc_sendings.proofs.filling.frame_bytes.Goals as goal

pub carried_bytes-requires : goal.carried_bytes-requires
carried_bytes-requires g c =
    let sent : Data = g.D.SentData.bytes c.args.sent.now in
    let same = ap (λ (names : List Named). carried_bytes sent names) c.datagrams.ensures.datagrams in
    let counted = c.requires.counted in
    let within = c.datagrams.ensures.filled.within in
    omega (arith, same, counted, within)

pub returns-clause-most : goal.returns-clause-most
returns-clause-most g c =
    let counted = c.requires.counted in
    let within = c.datagrams.ensures.filled.within in
    omega (arith, counted, within)
