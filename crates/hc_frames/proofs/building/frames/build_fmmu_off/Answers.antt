-- What is written are as many zeros as the FMMUs have bytes.
use Rattle.std.proofs.Common.{◌≡◌, ℕ, ◌*◌, List, [], ◌∷◌, length, replicate, subst, ap, ap₂, ◌∙◌}
use Rattle.hc_registers.specs.declared.registers.TheConstants.{FMMU_BLOCKS, FMMU_BLOCK_BYTES}
use Rattle.hc_frames.specs.declared.limits.TheConstants.{SETUP_SERIAL}
use Rattle.hc_frames.specs.Builds.{Builds}
use Rattle.hc_frames.specs.FrameText.{block_write, frame_text}
use Rattle.hc_frames.specs.Sizes.{frame_size}
use Rattle.hc_frames.proofs.Zeros.{zeros_long}
use Rattle.hc_frames.proofs.building.frames.build_fmmu_off.Goals as goal

pub returns : goal.returns
returns c =
    let size = FMMU_BLOCK_BYTES * c.args.count in
    let text : List ℕ → List ℕ = λ bytes. frame_text SETUP_SERIAL (block_write c.args.station FMMU_BLOCKS bytes ∷ []) in
    let many : c.from.result * c.from-2.result ≡ size = ap₂ (λ a b. a * b) c.from.ensures c.from-2.ensures in
    let zeros : c.zeros_of-written.result.now ≡ replicate size 0 = c.zeros_of-written.ensures ∙ ap (λ n. replicate n 0) many in
    let long : length c.zeros_of-written.result.now ≡ size = ap length zeros ∙ zeros_long size in
    subst (λ (bytes : List ℕ). Builds c.args.out.now c.build_write.new.out c.build_write.result (text bytes) (frame_size size)) zeros
    (subst (λ (n : ℕ). Builds c.args.out.now c.build_write.new.out c.build_write.result (text c.zeros_of-written.result.now) (frame_size n)) long c.build_write.ensures)
