-- The text of a frame of tasks, by the data that its datagrams are sent with.
use Rattle.std.specs.Prelude.{ℕ, ◌+◌, List, length, map, sum_by}
use Rattle.hc_records.specs.Image.{logical_address}
use Rattle.hc_frames.specs.FrameText.{Datagram, frame_text, lrw}
use Rattle.hc_events.specs.Sendings.{Frame, Named}

-- the data of each datagram, by its task and its number in the task
abbrev pub Data : Type 0
Data = ℕ → ℕ → List ℕ

-- a datagram of tasks with its data: a logical read and write at its logical address
abbrev pub datagram_with_data : Data → Named → Datagram
datagram_with_data bytes named = lrw (logical_address named.0 named.1) (bytes named.0 named.1)

-- the bytes of a frame's datagrams, with their headers and their counters
abbrev pub carried_bytes : Data → List Named → ℕ
carried_bytes bytes datagrams = sum_by (λ named. 12 + length (bytes named.0 named.1)) datagrams

-- the text of a frame whose datagrams carry these data
abbrev pub frame_text_of : Data → Frame → List ℕ
frame_text_of bytes frame = frame_text frame.serial (map (datagram_with_data bytes) frame.datagrams)
