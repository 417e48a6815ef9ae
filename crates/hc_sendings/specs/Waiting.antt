-- The sent frames that may still be answered: frames of tasks, and register writes (this project's profile).
use Rattle.std.specs.Prelude.{ℕ, ◌<◌, ◌==◌, ◌&&◌, not, Bool, true, false, if◌then◌else◌, List, [], ◌∷◌, ◌++◌, All, AllPairs, filter, fold, length, map}
use Rattle.std.specs.List.{list_any}
use Rattle.hc_records.specs.declared.limits.TheConstants.{MOST_DATAGRAMS, TASKS}
use Rattle.hc_records.specs.Line.{Member}
use Rattle.hc_frames.specs.FrameText.{station_address}
use Rattle.hc_events.specs.Sendings.{Frame, Named}
use Rattle.hc_events.specs.Accepted.{IsInLine}
use Rattle.hc_sendings.specs.declared.write_frames.PlacedBlock.{PlacedBlock}
use Rattle.hc_sendings.specs.declared.writes.AwaitedBlock.{AwaitedBlock}

-- a datagram of an awaited frame, and whether this is the newest frame that it was sent in
pub record AwaitedDatagram : Type 0 where
  pub datagram : Named
  pub last_sent : Bool

-- a frame of tasks: its serial, and its datagrams in order
pub record AwaitedFrame : Type 0 where
  pub serial : ℕ
  pub datagrams : List AwaitedDatagram

-- a frame of register writes: its serial, and its blocks in order
pub record AwaitedWrite : Type 0 where
  pub serial : ℕ
  pub blocks : List AwaitedBlock

-- the awaited frames, the oldest first; the register writes that carry the first owed blocks, the oldest first; those that carry further blocks, the oldest first; and whether a slave was forgotten since the last write
pub record Waiting : Type 0 where
  pub frames : List AwaitedFrame
  pub writes : List AwaitedWrite
  pub further : List AwaitedWrite
  pub forgotten : Bool

-- nothing is awaited, as at the opening and after an accepted edit
abbrev pub nothing : Waiting
nothing = record { frames = []; writes = []; further = []; forgotten = false }

-- all register writes that are awaited: those of further blocks, and after them those of the first ones
abbrev pub all_writes : Waiting → List AwaitedWrite
all_writes waiting = waiting.further ++ waiting.writes

-- a frame is sent: it is the newest one of its datagrams

-- a datagram as the frame that sends it carries it: this frame is its newest
abbrev pub just_sent : Named → AwaitedDatagram
just_sent named = record { datagram = named; last_sent = true }

-- a frame as it is awaited once it was sent
abbrev pub as_sent : Frame → AwaitedFrame
as_sent frame = record { serial = frame.serial; datagrams = map just_sent frame.datagrams }

-- the older frames are no longer the newest of these datagrams

-- two names are of one datagram: the same task, and the same number in it
abbrev pub is_named : Named → Named → Bool
is_named named other = (named.0 == other.0) && (named.1 == other.1)

-- a datagram of an older frame after a sending of these datagrams: that frame is no longer its newest if it is one of them
abbrev pub sent_again : List Named → AwaitedDatagram → AwaitedDatagram
sent_again again carried =
    record { datagram = carried.datagram; last_sent = carried.last_sent && not (list_any (is_named carried.datagram) again) }

-- an older frame after a sending of these datagrams
abbrev pub with_again : List Named → AwaitedFrame → AwaitedFrame
with_again again frame = record { serial = frame.serial; datagrams = map (sent_again again) frame.datagrams }

-- a frame is awaited as long as it is the newest of one datagram at least
abbrev pub is_still_awaited : AwaitedFrame → Bool
is_still_awaited frame = list_any (λ carried. carried.last_sent) frame.datagrams

-- the state once a frame was sent: it is after the others, and of these only those stay that are the newest of one datagram at
-- least
abbrev pub sent : Waiting → Frame → Waiting
sent waiting frame =
    record waiting { frames = filter is_still_awaited (map (with_again frame.datagrams) waiting.frames ++ as_sent frame ∷ []) }

-- the state once frames were sent, one after another
abbrev pub all_sent : Waiting → List Frame → Waiting
all_sent waiting frames = fold sent waiting frames

-- a register write is sent

-- a block of the line, at a place, as its write is awaited once it was sent
abbrev pub awaited_block : PlacedBlock → AwaitedBlock
awaited_block placed = record {
  place = placed.place;
  station = placed.block.station;
  number = placed.block.number;
  address = station_address placed.block.station placed.block.block.register;
  length = length placed.block.block.bytes;
  last_sent = true;
}

-- two are of one block: the same station address, and the same number in the slave's order
abbrev pub is_same : AwaitedBlock → AwaitedBlock → Bool
is_same block other = (block.station == other.station) && (block.number == other.number)

-- a block of an older write after a write of these blocks
abbrev pub written_again : List AwaitedBlock → AwaitedBlock → AwaitedBlock
written_again again block = record block { last_sent = block.last_sent && not (list_any (is_same block) again) }

-- an older write after a write of these blocks
abbrev pub with_written : List AwaitedBlock → AwaitedWrite → AwaitedWrite
with_written again write = record write { blocks = map (written_again again) write.blocks }

-- a write is awaited as long as one of its blocks is the newest at least
abbrev pub is_awaited : AwaitedWrite → Bool
is_awaited write = list_any (λ block. block.last_sent) write.blocks

-- the older writes that stay awaited after a write of these blocks: none if a slave was forgotten since the last write, since
-- the next write then replaces all before it
abbrev pub left_after : List AwaitedBlock → Bool → List AwaitedWrite → List AwaitedWrite
left_after again forgotten writes = if forgotten then [] else filter is_awaited (map (with_written again) writes)

-- the older writes of the first owed blocks that stay awaited
abbrev pub older_writes : List AwaitedBlock → Waiting → List AwaitedWrite
older_writes again waiting = left_after again waiting.forgotten waiting.writes

-- the older writes of further blocks that stay awaited
abbrev pub older_further : List AwaitedBlock → Waiting → List AwaitedWrite
older_further again waiting = left_after again waiting.forgotten waiting.further

-- the state once a write of these blocks, the first owed ones, was sent with this serial
abbrev pub wrote : ℕ → List AwaitedBlock → Waiting → Waiting
wrote serial blocks waiting = record waiting {
  writes = older_writes blocks waiting ++ record { serial = serial; blocks = blocks } ∷ [];
  further = older_further blocks waiting;
  forgotten = false;
}

-- the state once a write of these further blocks was sent with this serial
abbrev pub wrote_further : ℕ → List AwaitedBlock → Waiting → Waiting
wrote_further serial blocks waiting = record waiting {
  writes = older_writes blocks waiting;
  further = older_further blocks waiting ++ record { serial = serial; blocks = blocks } ∷ [];
  forgotten = false;
}

-- a write is the newest one of the block with a station address and a number
abbrev pub is_newest_of : ℕ → ℕ → AwaitedBlock → Bool
is_newest_of station number block = ((block.station == station) && (block.number == number)) && block.last_sent

-- a frame of writes carries the newest write of the block with a station address and a number
abbrev pub carries_newest : ℕ → ℕ → AwaitedWrite → Bool
carries_newest station number write = list_any (is_newest_of station number) write.blocks

-- the newest write of the block with a station address and a number is awaited
abbrev pub is_newest_awaited : ℕ → ℕ → Waiting → Bool
is_newest_awaited station number waiting = list_any (carries_newest station number) (all_writes waiting)

-- a block of a write after the slave with a station address was forgotten
abbrev pub block_forgotten : ℕ → AwaitedBlock → AwaitedBlock
block_forgotten station block = record block { last_sent = block.last_sent && not (block.station == station) }

-- a write after the slave with a station address was forgotten
abbrev pub write_forgotten : ℕ → AwaitedWrite → AwaitedWrite
write_forgotten station write = record write { blocks = map (block_forgotten station) write.blocks }

-- the writes that stay awaited after the slave with a station address was forgotten
abbrev pub left_forgotten : ℕ → List AwaitedWrite → List AwaitedWrite
left_forgotten station writes = filter is_awaited (map (write_forgotten station) writes)

-- the state once the slave with a station address was forgotten: no block of that slave is awaited; frames and other blocks
-- stay
abbrev pub forgot : ℕ → Waiting → Waiting
forgot station waiting =
    record waiting { writes = left_forgotten station waiting.writes; further = left_forgotten station waiting.further; forgotten = true }

-- the state once the frame or the write with a serial was answered
abbrev pub ended : ℕ → Waiting → Waiting
ended serial waiting = record waiting {
  frames = filter (λ frame. not (frame.serial == serial)) waiting.frames;
  writes = filter (λ write. not (write.serial == serial)) waiting.writes;
  further = filter (λ write. not (write.serial == serial)) waiting.further;
}

-- the conditions on the caller

-- a datagram that a task can have
pub record IsTaskDatagram (named : Named) : Type 0 where
  pub task : named.0 < TASKS
  pub number : named.1 < MOST_DATAGRAMS

-- frames are sent with serials that ascend, above those of the frames that are awaited
pub record ComeAfter (waiting : Waiting) (frames : List Frame) : Type 0 where
  pub ascend : AllPairs (λ a b. a.serial < b.serial) frames
  pub after_it : All (λ frame. All (λ next. frame.serial < next.serial) frames) waiting.frames

-- the datagrams of the awaited frames are of the line
abbrev pub AllAreInLine : List Member → Waiting → Type 0
AllAreInLine line waiting = All (λ frame. All (λ carried. IsInLine line carried.datagram) frame.datagrams) waiting.frames
