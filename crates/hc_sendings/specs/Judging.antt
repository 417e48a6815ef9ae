-- The judgement of an arrival by the frame or write that is awaited with its serial: it is compared datagram for datagram with
-- the sending, and judged by the working counter (ETG.1000.4, 5.4; this project's profile).
use Rattle.std.specs.Prelude.{ℕ, ◌==◌, Bool, if◌then◌else◌, List, [], find, map, Option, option_map}
use Rattle.std.specs.Option.{option_map_or, option_or}
use Rattle.std.specs.List.{zip}
use Rattle.hc_records.specs.Line.{Member}
use Rattle.hc_registers.specs.declared.counters.TheConstants.{WRITE_COUNT}
use Rattle.hc_frames.specs.declared.commands.Command.TheVariants.{Fpwr}
use Rattle.hc_events.specs.Arrivals.{Arrival, Part}
use Rattle.hc_events.specs.Heads.{Head, Block, data_head}
use Rattle.hc_events.specs.Answering.{Judged, Verdict, Good, Wrong, Stale, has_heads}
use Rattle.hc_sendings.specs.declared.writes.AwaitedBlock.{AwaitedBlock}
use Rattle.hc_sendings.specs.Waiting.{AwaitedFrame, AwaitedWrite, AwaitedDatagram, Waiting, all_writes}

-- a due datagram, of a task or of a register block: its head in the sending, and whether this is still its newest sending. It is
-- not if the datagram was sent again since, or if the block's slave was forgotten
pub record Due : Type 0 where
  pub head : Head
  pub last_sent : Bool

-- the due datagram of a frame, with its head in the line
abbrev pub due_of : List Member → AwaitedDatagram → Due
due_of line carried = record { head = data_head line carried.datagram; last_sent = carried.last_sent }

-- the due datagrams of an awaited frame, each with its head in the line, and whether this is the newest frame that it was sent
-- in
abbrev pub frame_due : List Member → AwaitedFrame → List Due
frame_due line frame = map (due_of line) frame.datagrams

-- the head of a register block's datagram: a write of it, by one slave
abbrev pub written_head : AwaitedBlock → Head
written_head block = record {
  item = Block block.station block.number;
  command = Fpwr;
  address = block.address;
  length = block.length;
  expected = WRITE_COUNT;
}

-- the due datagram of a block of an awaited write
abbrev pub block_due : AwaitedBlock → Due
block_due block = record { head = written_head block; last_sent = block.last_sent }

-- the due datagrams of an awaited register write, block by block
abbrev pub write_due : AwaitedWrite → List Due
write_due write = map block_due write.blocks

-- the awaited write with a serial, if there is one
abbrev pub found_write : ℕ → Waiting → Option AwaitedWrite
found_write serial waiting = find (λ write. write.serial == serial) (all_writes waiting)

-- the blocks of the awaited write with a serial, in its order; none if no such write is awaited
abbrev pub blocks_with : ℕ → Waiting → List AwaitedBlock
blocks_with serial waiting = option_map_or (λ write. write.blocks) (found_write serial waiting) []

-- the awaited frame with a serial, if there is one
abbrev pub found_frame : ℕ → Waiting → Option AwaitedFrame
found_frame serial waiting = find (λ frame. frame.serial == serial) waiting.frames

-- the due datagrams with a serial: those of the write with this serial, otherwise those of the frame; none if neither is
-- awaited
abbrev pub due_with : List Member → Waiting → ℕ → Option (List Due)
due_with line waiting serial =
    option_or (option_map write_due (found_write serial waiting)) (option_map (frame_due line) (found_frame serial waiting))

-- the verdict on a datagram that came back: stale if this is not its newest sending, otherwise good or wrong by its working
-- counter
abbrev pub verdict_of : Due → Part → Verdict
verdict_of due part = if due.last_sent then (if part.counter == due.head.expected then Good else Wrong) else Stale

-- a due datagram, with the part that came back and the verdict on it
abbrev pub judge_due : Due × Part → Judged
judge_due pair = record { head = pair.0.head; part = pair.1; verdict = verdict_of pair.0 pair.1 }

-- the judged datagrams of an arrival, if all came back, each with its command, address and length; otherwise none
abbrev pub judged_due : Arrival → List Due → List Judged
judged_due arrival due =
    if has_heads (map (λ one. one.head) due) arrival.parts then map judge_due (zip due arrival.parts) else []

-- the judged datagrams of the sending that an arrival answers; none if it answers nothing
abbrev pub judged_in : List Member → Waiting → Arrival → List Judged
judged_in line waiting arrival = option_map_or (judged_due arrival) (due_with line waiting arrival.serial) []
