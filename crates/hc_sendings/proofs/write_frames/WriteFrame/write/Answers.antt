use Rattle.std.proofs.Common.{◌≡◌, ◌∙◌, ◌+◌, ◌++◌, ℕ, List, ap, arith, drop, length, map, sym}
use Rattle.hc_frames.specs.FrameText.{frame_head, padding, sent_datagrams_text}
use Rattle.hc_frames.specs.Sizes.{frame_bytes}
use Rattle.hc_sendings.specs.WriteFrames.{WriteFrame, placed_datagram, placed_text}
use Rattle.hc_sendings.specs.declared.write_frames.PlacedBlock.{PlacedBlock}
use Rattle.hc_sendings.proofs.ClearedRest.{cleared-padding}
use Rattle.hc_sendings.proofs.write_frames.WriteFrame.write.Goals as goal

pub returns : goal.returns
returns c =
    let serial : ℕ = c.args.serial in
    let size : ℕ = c.self.inside.bytes in
    let texts : List ℕ = sent_datagrams_text serial (map placed_datagram c.self.inside.blocks.items) in
    let rest : List ℕ = c.split_at_mut-head.result.1.now in
    let cleared : List ℕ = c.clear_least.new.rest in
    let back : List ℕ = c.split_at_mut-texts.result.1.now in
    let written : c.write_datagrams.new.out ≡ texts =
    c.write_datagrams.ensures ∙ ap (λ (blocks : List PlacedBlock). sent_datagrams_text serial (map placed_datagram blocks)) c.as_slice.ensures.value in
    let counted : length texts ≡ size = ap length (sym written) ∙ c.write_datagrams.auto.out ∙ c.split_at_mut-texts.ensures.front_len ∙ c.from.ensures in
    let whole : length c.args.out.now ≡ frame_bytes size = c.requires.exact ∙ ap frame_bytes (sym (ap (λ (frame : WriteFrame). frame.bytes) c.self.view_is)) in
    let left = c.split_at_mut-head.ensures.back_len in
    let exact : 16 + length rest ≡ frame_bytes size = omega (arith, left, whole) in
    let after_it : back ≡ padding size =
    c.split_at_mut-texts.ensures.back
    ∙ ap (λ (n : ℕ). drop n cleared) c.from.ensures
    ∙ cleared-padding rest cleared size exact c.clear_least.ensures.size c.clear_least.ensures.zeros in
    ap (λ (head : List ℕ). head ++ (c.write_datagrams.new.out ++ back)) c.build_head.ensures
    ∙ ap (λ (text : List ℕ). frame_head serial size ++ (text ++ back)) written
    ∙ ap (λ (zeros : List ℕ). frame_head serial size ++ (texts ++ zeros)) after_it
    ∙ ap (λ (n : ℕ). frame_head serial n ++ (texts ++ padding n)) (sym counted)
    ∙ ap (λ (frame : WriteFrame). placed_text serial frame.blocks) c.self.view_is
