-- A thread, or a row of threads, between two rings of frames.
use Rattle.std.specs.Prelude.{◌≡◌, ℕ, List, [], length}
use Rattle.hc_lend.specs.Work.{HavePassed}
use Rattle.hc_rings.specs.declared.frames.FrameReceiver.{FrameReceiver}
use Rattle.hc_rings.specs.declared.frames.FrameSender.{FrameSender}
use Rattle.hc_rings.specs.Frames.{SameFrameReceiver, SameFrameSender, frames_sent, frames_taken}
use Rattle.hc_segment.specs.Line.{line_after, line_frames}

-- `count` frames were taken, and the sent ones are what the segments made of them
pub record Flows (count : ℕ) (line line' : List (List (List ℕ))) (from from' : FrameReceiver) (to to' : FrameSender) : Type 0 where
  pub counted : length (frames_taken from') ≡ count
  pub frames : frames_sent to' ≡ line_frames line (frames_taken from')
  pub segments : line' ≡ line_after line (frames_taken from')
  pub same_from : SameFrameReceiver from from'
  pub same_to : SameFrameSender to to'

-- no frame was taken from the one ring or sent to the other yet
abbrev pub Unused : FrameReceiver → FrameSender → Type 0
Unused from to = (frames_taken from ≡ []) × (frames_sent to ≡ [])

-- frames flow through segments (`Flows`), and a worker for each segment, from this number on, has passed a gate
abbrev pub FlowsPast :
    (ℕ → Type 0) → ℕ → ℕ → List (List (List ℕ)) → List (List (List ℕ)) → FrameReceiver → FrameReceiver → FrameSender → FrameSender → Type 0
FlowsPast passed first count line line' from from' to to' = Flows count line line' from from' to to' × HavePassed passed first (length line)
