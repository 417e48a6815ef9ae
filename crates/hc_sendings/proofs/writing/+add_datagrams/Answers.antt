use Rattle.std.proofs.Common.{ℕ, ap, arith, rules, length}
use Rattle.hc_sendings.specs.Texts.{Data}
use Rattle.hc_sendings.proofs.Written.{first-bytes, others-known}
use Rattle.hc_sendings.proofs.writing.+add_datagrams.Goals as goal

pub add_datagrams-requires : goal.add_datagrams-requires
add_datagrams-requires g t c κs within =
    let sent : Data = g.D.SentData.bytes c.args.sent.now in
    let datagrams = c.args.datagrams.now in
    let some = c.in-len1-up.len_at_least in
    let first = first-bytes sent datagrams some in
    let own = ap (length {A = ℕ}) c.bytes_of-bytes.ensures in (
      search rules,
      (within, (others-known datagrams some c.requires.known, omega (arith, first, own, c.requires.size))),
    )
