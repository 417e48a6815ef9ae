-- The text of one task's part in frames of several tasks (this project's profile).
use Rattle.std.specs.Prelude.{ℕ, ◌≡◌, ◌+◌, ◌-◌, ◌^◌, ◌<◌, All, ◌==◌, not, if◌then◌else◌, List, [], ◌∷◌, ◌++◌, length, slice_get, sum_by, Option}
use Rattle.std.specs.Option.{option_map_or}
use Rattle.std.specs.List.{flat_map}
use Rattle.hc_records.specs.declared.limits.TheConstants.{TASKS}
use Rattle.hc_frames.specs.FrameText.{sent_datagram_text, frame_head, padding}
use Rattle.hc_events.specs.Sendings.{Frame, Named}
use Rattle.hc_sendings.specs.Parts.{if_of}
use Rattle.hc_sendings.specs.Texts.{Data, datagram_with_data, carried_bytes}

-- a text if it belongs to the task, otherwise none
abbrev pub text_if : ℕ → ℕ → List ℕ → List ℕ
text_if task own text = if own == task then text else []

-- a text if it belongs to the task of this datagram; none if it does not, or if there is no datagram
abbrev pub share_text : ℕ → List ℕ → Option Named → List ℕ
share_text task text datagram = option_map_or (λ named. text_if task named.0 text) datagram []

-- the datagrams of the task, each as it is in its frame: more follow it there unless it is the last
abbrev pub own_texts : Data → ℕ → ℕ → List Named → List ℕ
own_texts bytes serial task [] = []
own_texts bytes serial task (named ∷ rest) =
    text_if task named.0 (sent_datagram_text serial (not (length rest == 0)) (datagram_with_data bytes named))
    ++ own_texts bytes serial task rest

-- of a frame the datagrams of the task; its first 16 bytes belong to the task of its first datagram, its padding to the task of its
-- last
abbrev pub frame_part_text : Data → ℕ → Frame → List ℕ
frame_part_text bytes task frame =
    share_text task (frame_head frame.serial (carried_bytes bytes frame.datagrams)) (slice_get frame.datagrams 0)
    ++ own_texts bytes frame.serial task frame.datagrams
    ++ share_text task (padding (carried_bytes bytes frame.datagrams))
    (slice_get frame.datagrams (length frame.datagrams - 1))

-- the part of a task in frames; nothing if it has none
abbrev pub part_text : Data → ℕ → List Frame → List ℕ
part_text bytes task frames = flat_map (frame_part_text bytes task) frames

-- the bytes of the datagrams of the task, with their headers and their counters
abbrev pub own_bytes_of : Data → ℕ → List Named → ℕ
own_bytes_of bytes task datagrams = sum_by (λ named. if_of task (12 + length (bytes named.0 named.1)) named) datagrams

-- a frame can be written with these data: it has a serial, its datagrams are of tasks that there are, and with the data they have the bytes that it was planned with
pub record CanBeWritten (bytes : Data) (frame : Frame) : Type 0 where
  pub serial : frame.serial < 2 ^ 40
  pub known : All (λ named. named.0 < TASKS) frame.datagrams
  pub counted : carried_bytes bytes frame.datagrams ≡ frame.bytes
