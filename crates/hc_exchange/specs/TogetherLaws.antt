-- Several register writes in one frame do to the machines of a line what frames of one write each do. Each law is the contract of a function of `programmed_laws`.
use Rattle.std.specs.Prelude.{◌≡◌, ℕ, ◌+◌, ◌^◌, ◌≤◌, All, List, length, map}
use Rattle.hc_registers.specs.Blocks.{LineBlock}
use Rattle.hc_frames.specs.FrameText.{frame_text, sent_on_wire}
use Rattle.hc_frames.specs.Laws.{CanBeCarried}
use Rattle.hc_machine.specs.declared.limits.TheConstants.{MEMORY_BYTES}
use Rattle.hc_segment.specs.Line.{machines_after, machines_after_frame}
use Rattle.hc_exchange.specs.Writing.{block_datagram, write_frames}

-- the frame that writes blocks, each by a datagram of its own, in their order
abbrev pub joint_frame : ℕ → List LineBlock → List ℕ
joint_frame serial blocks = frame_text serial (map block_datagram blocks)

-- if a frame can carry the writes, and there are serials enough for frames of one write each, both leave the machines of the line alike
abbrev pub JointFramesProgramAlike : Type 0
JointFramesProgramAlike =
    (machines : List (List ℕ)) (serial first : ℕ) (blocks : List LineBlock) → All (λ memory. length memory ≡ MEMORY_BYTES) machines → CanBeCarried serial (map sent_on_wire (map block_datagram blocks))
    → first + length blocks ≤ 2 ^ 40 → machines_after_frame machines (joint_frame serial blocks) ≡ machines_after machines (write_frames first blocks)
