-- A frame through a slave: its datagrams are served in order, each on the memory that those before it left.
use Rattle.std.specs.Prelude.{ℕ, ◌+◌, List, [], ◌∷◌, take, drop, is_none, if◌then◌else◌, slice_index}
use Rattle.hc_frames.specs.Arrived.{datagram_bytes, fault_in, reading_of}
use Rattle.hc_frames.specs.FrameText.{WireDatagram, carried_frame}
use Rattle.hc_machine.specs.Commands.{memory_after_datagram, served}

-- the datagrams as a slave passes them on
abbrev pub all_served : List ℕ → List WireDatagram → List WireDatagram
all_served memory [] = []
all_served memory (d ∷ ds) = served memory d ∷ all_served (memory_after_datagram memory d) ds

-- the memory after the datagrams
abbrev pub memory_after_datagrams : List ℕ → List WireDatagram → List ℕ
memory_after_datagrams memory [] = memory
memory_after_datagrams memory (d ∷ ds) = memory_after_datagrams (memory_after_datagram memory d) ds

-- a frame as it goes on: one that is read has the served datagrams in the place of its own, another one stays as it is
unfoldable pub frame_after : List ℕ → List ℕ → List ℕ
frame_after memory frame =
    if is_none (fault_in frame)
    then carried_frame (take 6 frame) (slice_index frame 6) (reading_of frame).serial (all_served memory (reading_of frame).parts) (drop (16 + datagram_bytes frame) frame)
    else frame

-- the memory after the frame
unfoldable pub memory_after : List ℕ → List ℕ → List ℕ
memory_after memory frame = if is_none (fault_in frame) then memory_after_datagrams memory (reading_of frame).parts else memory
