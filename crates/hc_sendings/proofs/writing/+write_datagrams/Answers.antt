use Rattle.std.proofs.Common.{◌∙◌, ◌++◌, ℕ, Bool, List, ap, arith, rules, length, map, get_or}
use Rattle.std.specs.Prelude.{not, ◌==◌}
use Rattle.hc_records.specs.Image.{logical_address}
use Rattle.hc_frames.specs.FrameText.{sent_datagram_text, sent_datagrams_text, lrw}
use Rattle.hc_events.specs.Sendings.{Named}
use Rattle.hc_sendings.specs.Texts.{Data, datagram_with_data}
use Rattle.hc_sendings.proofs.Written.{first-bytes, first-text, others, others-known}
use Rattle.hc_sendings.proofs.writing.+write_datagrams.Goals as goal

pub write_datagrams-requires : goal.write_datagrams-requires
write_datagrams-requires g t c κs within =
    let sent : Data = g.D.SentData.bytes c.args.sent.now in
    let datagrams = c.args.datagrams.now in
    let some = c.in-len1-up.len_at_least in
    let first = first-bytes sent datagrams some in
    let own = ap (length {A = ℕ}) c.bytes_of-bytes.ensures in
    let left = c.split_at_mut-first.ensures.back_len in (
      search rules,
      (within, (others-known datagrams some c.requires.known, (omega (arith, first, own, left, c.requires.exact), omega (arith, first, own, c.requires.size)))),
    )

pub returns-in-len1-up : goal.returns-in-len1-up
returns-in-len1-up g t c =
    let sent : Data = g.D.SentData.bytes c.args.sent.now in
    let serial = c.args.serial in
    let datagrams = c.args.datagrams.now in
    let first : Named = get_or datagrams 0 (0, 0) in
    let after_it : List ℕ = sent_datagrams_text serial (map (datagram_with_data sent) (others datagrams)) in
    ap (λ (text : List ℕ). text ++ c.write_datagrams.new.out) c.build_datagram_of.ensures
    ∙ ap (λ (text : List ℕ). sent_datagram_text serial (not c.is_empty.result) (lrw c.logical_address-address.result c.bytes_of-bytes.result.now) ++ text) c.write_datagrams.ensures
    ∙ ap (λ (last : Bool). sent_datagram_text serial (not last) (lrw c.logical_address-address.result c.bytes_of-bytes.result.now) ++ after_it) c.is_empty.ensures
    ∙ ap (λ (address : ℕ). sent_datagram_text serial (not (length (others datagrams) == 0)) (lrw address c.bytes_of-bytes.result.now) ++ after_it)
    (c.logical_address-address.ensures ∙ ap (logical_address first.0) c.from.ensures)
    ∙ ap (λ (bytes : List ℕ). sent_datagram_text serial (not (length (others datagrams) == 0)) (lrw (logical_address first.0 first.1) bytes) ++ after_it) c.bytes_of-bytes.ensures
    ∙ first-text sent serial datagrams c.in-len1-up.len_at_least
