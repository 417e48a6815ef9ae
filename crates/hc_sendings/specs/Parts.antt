-- Which bytes of the frames of several tasks are one task's to write (this project's profile).
use Rattle.std.specs.Prelude.{ℕ, ◌+◌, ◌-◌, ◌==◌, if◌then◌else◌, List, length, slice_get, sum_by, Option}
use Rattle.std.specs.Option.{option_map_or}
use Rattle.hc_records.specs.Line.{Member}
use Rattle.hc_frames.specs.declared.limits.TheConstants.{LEAST_FRAME}
use Rattle.hc_events.specs.Sendings.{Frame, Named, line_data_length}

-- a number of bytes if they belong to a datagram of the task, otherwise 0
abbrev pub if_of : ℕ → ℕ → Named → ℕ
if_of task bytes named = if named.0 == task then bytes else 0

-- a number of bytes if this datagram is one of the task's, otherwise 0; 0 if there is no datagram
abbrev pub share : ℕ → ℕ → Option Named → ℕ
share task bytes datagram = option_map_or (if_of task bytes) datagram 0

-- a datagram with its header and its working counter
abbrev pub own_bytes : List Member → Named → ℕ
own_bytes line named = 12 + line_data_length line named

-- the bytes of a datagram with its header and its counter if it is one of the task's, otherwise 0
abbrev pub own_share : List Member → ℕ → Named → ℕ
own_share line task named = if_of task (own_bytes line named) named

-- the zeros after datagrams with so many bytes, up to the least frame
abbrev pub padding_bytes : ℕ → ℕ
padding_bytes bytes = LEAST_FRAME - (16 + bytes)

-- of a frame the datagrams of the task; the 16 bytes before them belong to the first one's task, the zeros after them to the last one's
abbrev pub frame_part : List Member → ℕ → List Named → ℕ
frame_part line task datagrams =
    share task 16 (slice_get datagrams 0)
    + sum_by (own_share line task) datagrams
    + share task (padding_bytes (sum_by (own_bytes line) datagrams)) (slice_get datagrams (length datagrams - 1))

-- the bytes of a task's part of these frames
abbrev pub part_size : List Member → ℕ → List Frame → ℕ
part_size line task frames = sum_by (λ frame. frame_part line task frame.datagrams) frames
