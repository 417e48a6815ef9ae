-- Frames as they are filled, datagram by datagram: those that are done, and the one that a datagram may still join.
use Rattle.std.specs.Prelude.{◌≡◌, ℕ, ◌+◌, ◌-◌, ◌≤◌, if◌then◌else◌, List, [], ◌∷◌, ◌++◌, length, slice_get, take, Option, Some, None, IfSome}
use Rattle.hc_records.specs.Line.{Member}
use Rattle.hc_events.specs.Sendings.{Frame, Named, frame_of_one, framed, framed_after, has_room, frame_joined, task_datagrams}

-- the frames of what is left to come, after the frame that is open, if there is one
abbrev pub framed_from : List Member → ℕ → Option Frame → List Named → List Frame
framed_from line serial None datagrams = framed line serial datagrams
framed_from line serial (Some frame) datagrams = framed_after line frame datagrams

-- frames; the last is open, if there is one

-- the closed frames: all but the last one
abbrev pub closed : List Frame → List Frame
closed frames = take (length frames - 1) frames

-- the open frame: the last one
abbrev pub open_in : List Frame → Option Frame
open_in frames = slice_get frames (length frames - 1)

-- the open frame is done if a datagram with so many bytes of data has no room in it
abbrev pub done_by : Option Frame → ℕ → List Frame
done_by None length = []
done_by (Some frame) length = if has_room frame.bytes length then [] else frame ∷ []

-- the frame that is open after this datagram
abbrev pub last_with : ℕ → Option Frame → Named → ℕ → Frame
last_with serial None datagram length = frame_of_one serial datagram length
last_with serial (Some frame) datagram length =
    if has_room frame.bytes length then frame_joined frame datagram length else frame_of_one (frame.serial + 1) datagram length

-- all frames once these datagrams are added
abbrev pub all_framed : List Member → ℕ → List Frame → List Named → List Frame
all_framed line serial frames rest = closed frames ++ framed_from line serial (open_in frames) rest

-- a task's datagrams were put after the frames: whatever comes next is framed as if they came before it
abbrev pub FramesTask : List Member → ℕ → ℕ → List Frame → List Frame → Type 0
FramesTask line serial task before after =
    (rest : List Named) → all_framed line serial after rest ≡ all_framed line serial before (task_datagrams line task ++ rest)

-- the serial of the open frame, if there is one, is at most this
abbrev pub IsOpenUpTo : ℕ → List Frame → Type 0
IsOpenUpTo bound frames = IfSome (open_in frames) (λ frame. frame.serial ≤ bound)
