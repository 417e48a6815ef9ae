-- A frame that can be filled (this project's profile).
use Rattle.std.specs.Prelude.{◌≡◌, ◌+◌, ◌<◌, All, sum_by}
use Rattle.hc_frames.specs.declared.limits.TheConstants.{SETUP_SERIAL}
use Rattle.hc_events.specs.Accepted.{IsInLine}
use Rattle.hc_events.specs.Entries.{History}
use Rattle.hc_events.specs.Points.{line_of}
use Rattle.hc_events.specs.Sendings.{Frame, line_data_length}

-- a frame that can be filled: its datagrams are of the present line, its bytes are those of their data and 12 more for each
-- datagram, and its serial is one of a sending
pub record CanBeFilled (history : History) (frame : Frame) : Type 0 where
  pub in_line : All (IsInLine (line_of history)) frame.datagrams
  pub counted : frame.bytes ≡ sum_by (λ named. 12 + line_data_length (line_of history) named) frame.datagrams
  pub serial : frame.serial < SETUP_SERIAL
