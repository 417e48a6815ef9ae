use Rattle.std.proofs.Common.{◌∙◌, ◌-◌, ℕ, List, ap, arith, length}
use Rattle.std.specs.Prelude.{slice_get}
use Rattle.hc_events.specs.Sendings.{Named}
use Rattle.hc_sendings.specs.PartTexts.{own_bytes_of}
use Rattle.hc_sendings.specs.Parts.{padding_bytes, share}
use Rattle.hc_sendings.specs.Texts.{Data}
use Rattle.hc_sendings.proofs.Filled.{part-length}
use Rattle.hc_sendings.proofs.filling.frame_part_bytes.Goals as goal

pub returns : goal.returns
returns g c =
    let sent : Data = g.D.SentData.bytes c.args.sent.now in
    let task = c.args.task in
    let named = c.datagrams-datagrams.ensures.datagrams in
    let head = c.first_share-head.ensures.bytes ∙ ap (λ (names : List Named). share task 16 (slice_get names 0)) named in
    let own = c.own_bytes-own.ensures.bytes ∙ ap (λ (names : List Named). own_bytes_of sent task names) named in
    let size = c.frame_bytes.ensures.bytes in
    let last = c.last_share.ensures.bytes
    ∙ ap (λ (names : List Named). share task c.padding_bytes-padding.result (slice_get names (length names - 1))) named
    ∙ ap (λ (n : ℕ). share task n (slice_get c.args.frame.now.datagrams (length c.args.frame.now.datagrams - 1))) (c.padding_bytes-padding.ensures ∙ ap padding_bytes size) in
    let whole = part-length sent task c.args.frame.now in
    omega (arith, head, own, last, whole)
