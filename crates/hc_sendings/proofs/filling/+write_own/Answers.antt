use Rattle.std.proofs.Common.{◌∙◌, ◌+◌, ℕ, ap, arith, get_or, length, rules}
use Rattle.hc_events.specs.Sendings.{Named}
use Rattle.hc_sendings.specs.Parts.{if_of}
use Rattle.hc_sendings.specs.Texts.{Data}
use Rattle.hc_sendings.proofs.Filled.{first-own}
use Rattle.hc_sendings.proofs.Written.{first-bytes, others-known}
use Rattle.hc_sendings.proofs.filling.+write_own.Goals as goal

pub write_own-requires : goal.write_own-requires
write_own-requires g t c κs within =
    let sent : Data = g.D.SentData.bytes c.args.sent.now in
    let datagrams = c.args.datagrams.now in
    let first : Named = get_or datagrams 0 (0, 0) in
    let some = c.in-len1-up.len_at_least in
    let own = first-own sent c.args.task datagrams some in
    let whole = first-bytes sent datagrams some in
    let cut = c.share.ensures.bytes ∙ ap (λ (n : ℕ). if_of c.args.task (12 + n) first) (ap (length {A = ℕ}) c.bytes_of-bytes.ensures) in
    let left = c.split_at_mut-first.ensures.back_len in (
      search rules,
      (within, (others-known datagrams some c.requires.known, (omega (arith, own, cut, left, c.requires.exact), omega (arith, whole, c.requires.size)))),
    )
