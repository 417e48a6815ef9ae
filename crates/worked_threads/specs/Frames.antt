-- A frame that goes from one ring to another.
use Rattle.std.specs.Prelude.{◌≡◌, ℕ, List, [], ◌∷◌, ◌++◌, slice_set}
use Rattle.hc_rings.specs.declared.frames.FrameReceiver.{FrameReceiver}
use Rattle.hc_rings.specs.declared.frames.FrameSender.{FrameSender}
use Rattle.hc_rings.specs.Frames.{frames_sent, frames_taken}

-- one frame was taken from the one ring, marked by its source address, and sent into the other
abbrev pub PassesMarked : FrameReceiver → FrameReceiver → FrameSender → FrameSender → Type 0
PassesMarked from from' to to' =
    (frame : List ℕ) × (frames_taken from' ≡ frames_taken from ++ frame ∷ []) × (frames_sent to' ≡ frames_sent to ++ slice_set frame 6 2 ∷ [])
