-- The two setup commands of a simulated line: its aliases are read, and its slaves are given their station addresses, each slave by its position (ETG.1000.4, auto increment addressing).
use Rattle.std.specs.Prelude.{ℕ, ◌+◌, ◌%◌, ◌==◌, Bool, List, [], ◌∷◌, length, map, filter}
use Rattle.std.specs.List.{range_with_len}
use Rattle.hc_records.specs.Line.{Member}
use Rattle.hc_frames.specs.declared.limits.TheConstants.{FIRST_DATA, SETUP_SERIAL}
use Rattle.hc_frames.specs.Arrived.{word_at}
use Rattle.hc_frames.specs.FrameText.{alias_read, frame_text, station_write}
use Rattle.hc_segment.specs.Line.{frames_through, machines_after}

-- the frame that reads the alias of the slave at a position, counted from 0; positions wrap at 65,536
unfoldable pub alias_frame : ℕ → List ℕ
alias_frame position = frame_text SETUP_SERIAL (alias_read (position % 65536) ∷ [])

-- the frames that read the aliases of `count` slaves
abbrev pub alias_frames : ℕ → List (List ℕ)
alias_frames count = map alias_frame (range_with_len 0 count)

-- the frame that gives the slave at a position its station address
unfoldable pub station_frame : ℕ → ℕ → List ℕ
station_frame position station = frame_text SETUP_SERIAL (station_write (position % 65536) station ∷ [])

-- the frames that give the members of a line their station addresses, from this position on
abbrev pub station_frames : ℕ → List Member → List (List ℕ)
station_frames position [] = []
station_frames position (member ∷ members) = station_frame position member.slave.station ∷ station_frames (position + 1) members

-- the two data bytes of a frame of one datagram as a number, low byte first
abbrev pub data_in : List ℕ → ℕ
data_in frame = word_at frame FIRST_DATA

-- the working counter of a frame of one datagram with two data bytes
abbrev pub counter_in : List ℕ → ℕ
counter_in frame = word_at frame (FIRST_DATA + 2)

-- the aliases that come back from machines, position by position
unfoldable pub aliases_read : List (List ℕ) → List ℕ
aliases_read machines = map data_in (frames_through machines (alias_frames (length machines)))

-- the machines after the reads
unfoldable pub machines_scanned : List (List ℕ) → List (List ℕ)
machines_scanned machines = machines_after machines (alias_frames (length machines))

-- a frame that exactly one slave took
abbrev pub is_taken_once : List ℕ → Bool
is_taken_once frame = counter_in frame == 1

-- the number of station writes to the members of a line that come back from machines with the working counter 1
unfoldable pub named_count : List (List ℕ) → List Member → ℕ
named_count machines members = length (filter is_taken_once (frames_through machines (station_frames 0 members)))

-- the machines after the writes
unfoldable pub machines_named : List (List ℕ) → List Member → List (List ℕ)
machines_named machines members = machines_after machines (station_frames 0 members)
