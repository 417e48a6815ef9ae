-- Frames through machines one after another. A machine is seen as its memory.
use Rattle.std.specs.Prelude.{ℕ, List, [], ◌∷◌, ◌++◌}
use Rattle.hc_machine.specs.Frames.{frame_after, memory_after}

-- a frame after the last of the machines
abbrev pub frame_through : List (List ℕ) → List ℕ → List ℕ
frame_through [] frame = frame
frame_through (m ∷ ms) frame = frame_through ms (frame_after m frame)

-- the machines after a frame: each met it as those before it passed it on
abbrev pub machines_after_frame : List (List ℕ) → List ℕ → List (List ℕ)
machines_after_frame [] frame = []
machines_after_frame (m ∷ ms) frame = memory_after m frame ∷ machines_after_frame ms (frame_after m frame)

-- frames after the last machine: each machine meets them in order
abbrev pub frames_through : List (List ℕ) → List (List ℕ) → List (List ℕ)
frames_through machines [] = []
frames_through machines (f ∷ fs) = frame_through machines f ∷ frames_through (machines_after_frame machines f) fs

-- the machines after the frames
abbrev pub machines_after : List (List ℕ) → List (List ℕ) → List (List ℕ)
machines_after machines [] = machines
machines_after machines (f ∷ fs) = machines_after (machines_after_frame machines f) fs

-- the machines of some segments, in their order
abbrev pub all_machines : List (List (List ℕ)) → List (List ℕ)
all_machines [] = []
all_machines (s ∷ ss) = s ++ all_machines ss

-- frames after the last of some segments: what leaves one meets the next
abbrev pub line_frames : List (List (List ℕ)) → List (List ℕ) → List (List ℕ)
line_frames [] fs = fs
line_frames (s ∷ ss) fs = line_frames ss (frames_through s fs)

-- the segments after frames that go through them one after another
abbrev pub line_after : List (List (List ℕ)) → List (List ℕ) → List (List (List ℕ))
line_after [] fs = []
line_after (s ∷ ss) fs = machines_after s fs ∷ line_after ss (frames_through s fs)
