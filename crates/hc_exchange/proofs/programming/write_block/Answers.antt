use Rattle.std.proofs.Common.{◌≡◌, ◌≤◌, ℕ, ◌∙◌, List, [], ◌∷◌, length, refl, ap, ap₂, arith}
use Rattle.hc_frames.specs.FrameText.{block_write, frame_text}
use Rattle.hc_frames.specs.Sizes.{frame_size}
use Rattle.hc_segment.specs.Line.{machines_after_frame}
use Rattle.hc_exchange.proofs.Written.{built-whole}
use Rattle.hc_exchange.proofs.programming.write_block.Goals as goal

least : (n : ℕ) → n ≤ 16 → frame_size n ≡ 60
least n few = omega arith

pub returns : goal.returns
returns c =
    let few : length c.bytes.result.now ≤ 16 = omega (arith, ap length c.bytes.ensures, c.requires.few) in
    let text = frame_text c.args.serial (block_write c.args.station c.register.result c.bytes.result.now ∷ []) in
    let frame = built-whole _ c.build_write.new.out text c.build_write.result (frame_size (length c.bytes.result.now)) c.build_write.ensures refl (least (length c.bytes.result.now) few) in
    c.process.ensures.machines
    ∙ ap (machines_after_frame c.args.segment.now)
    (frame ∙ ap₂ (λ (r : ℕ) (b : List ℕ). frame_text c.args.serial (block_write c.args.station r b ∷ [])) c.register.ensures c.bytes.ensures)
