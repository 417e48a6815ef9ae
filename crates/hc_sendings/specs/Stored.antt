-- The storage of awaited frames: with a table that has, for each datagram, the serial of the newest frame that it was sent in.
-- Contracts inside the crate cite it.
use Rattle.std.specs.Prelude.{◌≡◌, ◌<◌, ℕ, ◌-◌, ◌*◌, ◌==◌, Bool, false, not, if◌then◌else◌, List, [], All, AllPairs, filter, fold, length, map, slice_index_or, Option, Some, None}
use Rattle.std.specs.List.{list_any}
use Rattle.std.specs.Option.{option_map_or}
use Rattle.hc_records.specs.declared.limits.TheConstants.{MOST_DATAGRAMS, TASKS}
use Rattle.hc_records.specs.Slots.{slot_number}
use Rattle.hc_events.specs.Sendings.{Frame, Named}
use Rattle.hc_sendings.specs.Waiting.{AwaitedFrame, AwaitedDatagram, IsTaskDatagram, is_still_awaited, is_named}

-- the serial of each datagram's newest frame; none if the datagram was not sent
abbrev pub LastSent : Type 0
LastSent = List (Option ℕ)

-- the serial of the newest frame that a datagram was sent in; none if it was not sent
abbrev pub last_sent_of : LastSent → Named → Option ℕ
last_sent_of last_sent named = slice_index_or last_sent (slot_number named.0 named.1) None

-- a serial was found, and it is this one
abbrev pub is_serial : ℕ → Option ℕ → Bool
is_serial serial found = option_map_or (λ other. other == serial) found false

-- the frame with this serial is the newest one that the datagram was sent in
abbrev pub is_last_sent : LastSent → ℕ → Named → Bool
is_last_sent last_sent serial named = is_serial serial (last_sent_of last_sent named)

-- the newest frame of a datagram after these frames
abbrev pub last_sent_after : Named → Option ℕ → List Frame → Option ℕ
last_sent_after named last_sent frames =
    fold (λ found frame. if list_any (is_named named) frame.datagrams then Some frame.serial else found) last_sent frames

-- a frame as it is stored: its serial and its datagrams
pub record StoredFrame : Type 0 where
  pub serial : ℕ
  pub datagrams : List Named

-- a sent frame as it is stored: without the number of its bytes
abbrev pub stored_frame : Frame → StoredFrame
stored_frame frame = record { serial = frame.serial; datagrams = frame.datagrams }

-- a frame with this serial, which was answered, has no datagrams any more
abbrev pub frame_emptied : ℕ → StoredFrame → StoredFrame
frame_emptied serial frame = if frame.serial == serial then record { serial = frame.serial; datagrams = [] } else frame

-- the stored frames without the one with this serial, which was answered
abbrev pub frames_without : ℕ → List StoredFrame → List StoredFrame
frames_without serial frames = filter (λ frame. not (frame.serial == serial)) frames

-- the last frame has this serial
pub record IsLast (serial : ℕ) (frames : List StoredFrame) : Type 0 where
  pub some : 0 < length frames
  pub has_it : (d : StoredFrame) → (slice_index_or frames (length frames - 1) d).serial ≡ serial

-- the datagram of a frame with a serial, and whether this frame is its newest by the table
abbrev pub awaited_datagram : LastSent → ℕ → Named → AwaitedDatagram
awaited_datagram last_sent serial named = record { datagram = named; last_sent = is_last_sent last_sent serial named }

-- a stored frame as an awaited one: for each of its datagrams, whether this frame is its newest by the table
abbrev pub frame_by : LastSent → StoredFrame → AwaitedFrame
frame_by last_sent frame = record { serial = frame.serial; datagrams = map (awaited_datagram last_sent frame.serial) frame.datagrams }

-- the awaited frames: those that are the newest of some datagram
abbrev pub awaited_frames : LastSent → List StoredFrame → List AwaitedFrame
awaited_frames last_sent frames = filter is_still_awaited (map (frame_by last_sent) frames)

-- the table has a place for each datagram; serials ascend; datagrams have a place
pub record AreStored (last_sent : LastSent) (frames : List StoredFrame) : Type 0 where
  pub places : length last_sent ≡ TASKS * MOST_DATAGRAMS
  pub ascend : AllPairs (λ a b. a.serial < b.serial) frames
  pub named : All (λ frame. All IsTaskDatagram frame.datagrams) frames

-- the stored frames that are still awaited
abbrev pub awaited_of : LastSent → List StoredFrame → List StoredFrame
awaited_of last_sent frames = filter (λ frame. is_still_awaited (frame_by last_sent frame)) frames

-- these frames' serials are below those of the frames that come
abbrev pub SerialsAreBelow : List Frame → List StoredFrame → Type 0
SerialsAreBelow more frames = All (λ old. All (λ next. old.serial < next.serial) more) frames

-- the serial of the newest frame of a datagram, once these datagrams were sent in a frame with a serial
abbrev pub serial_noted : Named → List Named → ℕ → Option ℕ → Option ℕ
serial_noted named datagrams serial before = if list_any (is_named named) datagrams then Some serial else before
