use Rattle.std.proofs.Common.{◌∙◌, ◌++◌, ℕ, List, ap, map}
use Rattle.hc_frames.specs.FrameText.{sent_datagrams_text, frame_head}
use Rattle.hc_events.specs.Sendings.{Named}
use Rattle.hc_sendings.specs.Texts.{Data, datagram_with_data}
use Rattle.hc_sendings.proofs.Pieces.{added-up}
use Rattle.hc_sendings.proofs.writing.text_by_parts.Goals as goal

pub returns : goal.returns
returns g c =
    let sent : Data = g.D.SentData.bytes c.args.sent.now in
    let serial = c.args.frame.now.serial in
    let names = c.args.frame.now.datagrams in
    let size = c.args.size in
    let same = c.datagrams-datagrams.ensures.datagrams in
    let none = c.in_ok-text.text.items in
    let head = c.add_head.new.text.items in
    c.of.ensures
    ∙ added-up sent serial size names none head c.add_datagrams.new.text.items c.add_padding.new.text.items
    c.in_ok-text.ensures.items
    (c.in_ok-add_head.ensures ∙ ap (λ (n : ℕ). none ++ frame_head n size) c.serial.ensures)
    (c.in_ok-add_datagrams.ensures
    ∙ ap (λ (n : ℕ). head ++ sent_datagrams_text n (map (datagram_with_data sent) c.datagrams-datagrams.result.now)) c.serial-2.ensures
    ∙ ap (λ (all : List Named). head ++ sent_datagrams_text serial (map (datagram_with_data sent) all)) same)
    c.in_ok-add_padding.ensures
    c.requires.size
