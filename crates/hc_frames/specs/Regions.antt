-- The reader's steps: the frame before its datagrams are read, and a pass over the datagrams.
use Rattle.std.specs.Prelude.{◌≡◌, ℕ, ◌+◌, ◌≤◌, false, List, length, Option, Some, None, if◌then◌else◌}
use Rattle.hc_frames.specs.declared.limits.TheConstants.{LEAST_READ, MAX_DATAGRAMS}
use Rattle.hc_frames.specs.declared.reading.datagrams.Survey.{Survey}
use Rattle.hc_frames.specs.declared.reading.faults.FrameFault.{FrameFault}
use Rattle.hc_frames.specs.declared.reading.faults.FrameFault.TheVariants.{Circulating, MoreFollows, UnknownCommand, IndexMismatch}
use Rattle.hc_frames.specs.Arrived.{datagram_bytes, has_bad_type, is_not_ethercat, region}

-- the bytes of the datagrams, if no condition holds that shows before they are read
pub record ComesAfter (bytes found : List ℕ) : Type 0 where
  pub found_there : found ≡ region bytes
  pub long : LEAST_READ ≤ length bytes
  pub ethercat : is_not_ethercat bytes ≡ false
  pub type : has_bad_type bytes ≡ false
  pub within : datagram_bytes bytes ≤ MAX_DATAGRAMS
  pub there : 16 + datagram_bytes bytes ≤ length bytes

-- the first fault that shows in the datagrams
abbrev pub fault_of : Survey → Option FrameFault
fault_of seen =
    if seen.circulates then Some Circulating
    else (if seen.more then Some MoreFollows
    else (if seen.unknown then Some UnknownCommand
    else (if seen.mismatch then Some IndexMismatch
    else None)))
