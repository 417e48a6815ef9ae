use Rattle.std.proofs.Common.{ℕ, ◌+◌, ◌∙◌, List, [], ◌∷◌, ◌++◌, length, length-append, sym, ap, ap₂, arith, Vec, Global}
use Rattle.std.specs.Prelude.{map}
use Rattle.std.proofs.lemmas.List.{map_push}
use Rattle.std.proofs.lemmas.List.FromFn.{map-range_with_len_more}
use Rattle.hc_records.specs.Image.{logical_address}
use Rattle.hc_frames.specs.FrameText.{frame_text, lrw}
use Rattle.hc_images.specs.Packed.{sent_bytes}
use Rattle.hc_exchange.proofs.sending.frames_of.Goals as goal

pub loop-n-preserved : goal.loop-n-preserved
loop-n-preserved c =
    let l = c.loop-n in
    let list = c.push_reserved.ensures in
    let longer = length-append l.frames.items (c.in_ok-frame.frame ∷ []) in
    let room = l.invariant.2 in (
      ap (map (λ (f : Vec ℕ Global). f.items)) list.items ∙ map_push (λ (f : Vec ℕ Global). f.items) l.frames.items c.in_ok-frame.frame
          ∙ ap₂ (λ (fs : List (List ℕ)) (f : List ℕ). fs ++ f ∷ []) l.invariant.0 (c.in_ok-frame.ensures ∙ ap₂ (λ (a : ℕ) (bytes : List ℕ). frame_text (c.args.serial + l.n) (lrw a bytes ∷ [])) c.logical_address-address.ensures c.bytes.ensures)
          ∙ sym (map-range_with_len_more (λ d. frame_text (c.args.serial + d) (lrw (logical_address c.args.task d) (sent_bytes c.args.packed.now c.args.task d) ∷ [])) 0 l.n l.n (omega arith)),
      ap length list.items ∙ longer ∙ ap (λ (n : ℕ). n + 1) l.invariant.1,
      omega (arith, list.capacity, room),
    )
