-- Laws of frames through machines in a row, and through segments.
use Rattle.std.specs.Prelude.{◌≡◌, All, ℕ, List, ◌++◌, length, map}
use Rattle.hc_frames.specs.FrameText.{WireDatagram, Datagram, frame_text, sent_on_wire}
use Rattle.hc_frames.specs.Laws.{CanBeCarried}
use Rattle.hc_frames.specs.Returned.{IsReturned}
use Rattle.hc_machine.specs.declared.limits.TheConstants.{MEMORY_BYTES}
use Rattle.hc_segment.specs.Line.{all_machines, frame_through, frames_through, line_after, line_frames, machines_after}

-- after two rows of machines frames are those after the second of those after the first, and each machine is as its own row leaves it
abbrev pub RowsAreJoined : Type 0
RowsAreJoined =
    (a b frames : List (List ℕ))
    → (frames_through (a ++ b) frames ≡ frames_through b (frames_through a frames)) × (machines_after (a ++ b) frames ≡ machines_after a frames ++ machines_after b (frames_through a frames))

-- a line of segments is one segment of all their machines
abbrev pub LinesAreSegments : Type 0
LinesAreSegments =
    (line : List (List (List ℕ))) (frames : List (List ℕ))
    → (line_frames line frames ≡ frames_through (all_machines line) frames) × (all_machines (line_after line frames) ≡ machines_after (all_machines line) frames)

-- a sending's frame is a returned text of it after any machines, whatever bytes are after it
abbrev pub SentTextsComeBack : Type 0
SentTextsComeBack =
    (machines : List (List ℕ)) (serial : ℕ) (ds : List Datagram) (after_it : List ℕ) → All (λ m. length m ≡ MEMORY_BYTES) machines → CanBeCarried serial (map sent_on_wire ds)
    → (parts : List WireDatagram) × IsReturned serial ds parts (frame_through machines (frame_text serial ds ++ after_it)) × CanBeCarried serial parts
