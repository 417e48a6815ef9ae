use Rattle.std.proofs.Common.{◌≡◌, ◌∙◌, ◌-◌, ◌==◌, ℕ, List, [], ap, arith, cond, length}
use Rattle.std.specs.Prelude.{slice_get}
use Rattle.hc_frames.specs.FrameText.{frame_head}
use Rattle.hc_events.specs.Sendings.{Named}
use Rattle.hc_sendings.specs.PartTexts.{own_bytes_of, own_texts}
use Rattle.hc_sendings.specs.Parts.{padding_bytes, share}
use Rattle.hc_sendings.specs.Texts.{Data, carried_bytes}
use Rattle.hc_sendings.proofs.Filled.{frame-filled, part-length}
use Rattle.hc_sendings.proofs.filling.fill_frame_part.Goals as goal

pub split_at_mut-texts-requires : goal.split_at_mut-texts-requires
split_at_mut-texts-requires g c =
    let sent : Data = g.D.SentData.bytes c.args.sent.now in
    let task = c.args.task in
    let named = c.datagrams-datagrams.ensures.datagrams in
    let head = c.first_share.ensures.bytes ∙ ap (λ (names : List Named). share task 16 (slice_get names 0)) named in
    let own = c.own_bytes-own.ensures.bytes ∙ ap (λ (names : List Named). own_bytes_of sent task names) named in
    let whole = part-length sent task c.args.frame.now in
    let left = c.split_at_mut-head.ensures.back_len in
    omega (arith, head, own, whole, left, c.requires.exact)

pub returns : goal.returns
returns g c =
    let sent : Data = g.D.SentData.bytes c.args.sent.now in
    let task = c.args.task in
    let frame = c.args.frame.now in
    let named = c.datagrams-datagrams.ensures.datagrams in
    let head = c.first_share.ensures.bytes ∙ ap (λ (names : List Named). share task 16 (slice_get names 0)) named in
    let own = c.own_bytes-own.ensures.bytes ∙ ap (λ (names : List Named). own_bytes_of sent task names) named in
    let size = c.frame_bytes-size.ensures.bytes in
    let whole = part-length sent task frame in
    let left = c.split_at_mut-head.ensures.back_len in
    let front = c.split_at_mut-head.ensures.front_len in
    let rest = c.split_at_mut-texts.ensures.back_len in
    let long : ℕ = length c.split_at_mut-head.result.0.now in
    let pad : ℕ = length c.split_at_mut-texts.result.1.now in
    let first : long ≡ share task 16 (slice_get frame.datagrams 0) = omega (arith, front, head) in
    let after_it : pad ≡ share task (padding_bytes (carried_bytes sent frame.datagrams)) (slice_get frame.datagrams (length frame.datagrams - 1)) =
    omega (arith, head, own, whole, left, rest, c.requires.exact) in
    frame-filled sent task frame long pad c.write_head.new.out c.write_own.new.out c.fill.new.self first
    (c.write_head.ensures
    ∙ ap (λ (n : ℕ). cond (long == 0) [] (frame_head c.serial.result n)) size
    ∙ ap (λ (n : ℕ). cond (long == 0) [] (frame_head n (carried_bytes sent frame.datagrams))) c.serial.ensures)
    (c.write_own.ensures
    ∙ ap (λ (n : ℕ). own_texts sent n task c.datagrams-datagrams.result.now) c.serial-2.ensures
    ∙ ap (own_texts sent frame.serial task) named)
    (c.fill.ensures.after (λ y same. same))
    after_it
