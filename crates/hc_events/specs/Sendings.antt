-- A frame of tasks: how datagrams share frames (this project's profile, within what a frame holds by ETG.1000.4, 5.3 and 5.4).
use Rattle.std.specs.Prelude.{ℕ, ◌+◌, ◌*◌, ◌≤◌, ◌<◌, nat_le, Bool, if◌then◌else◌, List, [], ◌∷◌, ◌++◌, length, map}
use Rattle.std.specs.List.{flat_map, range_with_len}
use Rattle.hc_records.specs.Line.{Member}
use Rattle.hc_records.specs.Image.{datagram_count, datagram_length, task_places}
use Rattle.hc_frames.specs.declared.limits.TheConstants.{MAX_ETHERCAT}
use Rattle.hc_frames.specs.Sizes.{frame_bytes}

-- a datagram of a task: the task's number and the datagram's number in it
abbrev pub Named : Type 0
Named = ℕ × ℕ

-- a frame of tasks: its serial, the bytes of its datagrams with their headers and counters, and the datagrams in order
pub record Frame : Type 0 where
  pub serial : ℕ
  pub bytes : ℕ
  pub datagrams : List Named

-- the bytes of the whole frame
abbrev pub sent_frame_size : Frame → ℕ
sent_frame_size sending = frame_bytes sending.bytes

-- beside so many bytes of datagrams a datagram with so many bytes of data is within the bytes that may follow the Ethernet header
abbrev pub has_room : ℕ → ℕ → Bool
has_room bytes length = nat_le (2 + bytes + 12 + length) MAX_ETHERCAT

-- a frame of one datagram with so many bytes of data
abbrev pub frame_of_one : ℕ → Named → ℕ → Frame
frame_of_one serial datagram length = record { serial = serial; bytes = 12 + length; datagrams = datagram ∷ [] }

-- the frame with a datagram of so many bytes of data after its others
abbrev pub frame_joined : Frame → Named → ℕ → Frame
frame_joined sending datagram length =
    record sending { bytes = sending.bytes + 12 + length; datagrams = sending.datagrams ++ datagram ∷ [] }

-- at least one datagram; bytes for each one's header, its working counter and at least one byte of data; and no more bytes than a frame holds
pub record FrameIsFilled (bytes : ℕ) (datagrams : List Named) : Type 0 where
  pub some : 0 < length datagrams
  pub filled : 13 * length datagrams ≤ bytes
  pub within : 2 + bytes ≤ MAX_ETHERCAT

-- the datagrams of a task, in order
abbrev pub task_datagrams : List Member → ℕ → List Named
task_datagrams line task = map (λ d. (task, d)) (range_with_len 0 (datagram_count (task_places task line)))

-- the number of data bytes that a task's datagram has in the line; 0 if the line has no such datagram
abbrev pub line_data_length : List Member → Named → ℕ
line_data_length line named = datagram_length (task_places named.0 line) named.1

-- datagrams in frames: each joins the frame before it if there is room, otherwise it begins a frame
abbrev pub framed_after : List Member → Frame → List Named → List Frame
framed_after line sending [] = sending ∷ []
framed_after line sending (datagram ∷ datagrams) =
    if has_room sending.bytes (line_data_length line datagram)
    then framed_after line (frame_joined sending datagram (line_data_length line datagram)) datagrams
    else sending ∷ framed_after line (frame_of_one (sending.serial + 1) datagram (line_data_length line datagram)) datagrams

-- the datagrams in frames, in order, the first frame with this serial; no frame if there is no datagram
abbrev pub framed : List Member → ℕ → List Named → List Frame
framed line serial [] = []
framed line serial (datagram ∷ datagrams) = framed_after line (frame_of_one serial datagram (line_data_length line datagram)) datagrams

-- the frames in which the datagrams of tasks are sent, in the tasks' order, with serials from this one on
abbrev pub sendings_of : List Member → ℕ → List ℕ → List Frame
sendings_of line serial tasks = framed line serial (flat_map (task_datagrams line) tasks)
