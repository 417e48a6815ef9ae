-- The frame of one datagram alone, by what it depends on: the line and the next serial.
use Rattle.std.specs.Prelude.{ℕ, ◌&&◌, nat_lt, if◌then◌else◌, List, Option, Some, None}
use Rattle.hc_records.specs.Line.{Member}
use Rattle.hc_records.specs.Image.{datagram_count, task_places}
use Rattle.hc_events.specs.Sendings.{Frame, frame_of_one, line_data_length}
use Rattle.hc_events.specs.Steps.{serials_left}

-- the frame of one datagram as it would be sent next, even if blocks are owed; none if the task has no such datagram or no
-- serial is left
abbrev pub preview_in : List Member → ℕ → ℕ → ℕ → Option Frame
preview_in line serial task d =
    if nat_lt d (datagram_count (task_places task line)) && serials_left serial 1
    then Some (frame_of_one serial (task, d) (line_data_length line (task, d)))
    else None
