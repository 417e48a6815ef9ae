-- The line of most worked records, an axis with 2 output bits and 12 input bits, and the frames that come back from it.
use Rattle.std.specs.Prelude.{ℕ, ◌+◌, List, [], ◌∷◌, ◌++◌, length, replicate, Some}
use Rattle.hc_records.specs.declared.records.Dir.{Dir}
use Rattle.hc_records.specs.declared.records.Dir.TheVariants.{Out, In}
use Rattle.hc_records.specs.declared.records.Area.{Area}
use Rattle.hc_records.specs.declared.records.Slave.{Slave}
use Rattle.hc_records.specs.declared.edit.Edit.TheVariants.{Move}
use Rattle.hc_frames.specs.declared.commands.Command.TheVariants.{Fpwr, Lrw}
use Rattle.hc_frames.specs.FrameText.{carried_frame, station_address}
use Rattle.hc_events.specs.Arrivals.{Part}
use Rattle.hc_events.specs.Entries.{History, Opened}
use Rattle.hc_events.specs.Owed.{owed_blocks}
use Rattle.hc_events.specs.Steps.{Step, Edits, Posts, SendsTasks, SendsWrite, Arrives, entries_after_all}

abbrev pub area_of : ℕ → Dir → ℕ → ℕ → ℕ → ℕ → Area
area_of sm dir phys index variable bits = record {
  sm = sm;
  dir = dir;
  phys = phys;
  offered = record { index = index; entries = (Some variable, bits) ∷ [] } ∷ [];
  assigned = index ∷ [];
  task = 0;
}

abbrev pub axis : Slave
axis = record { station = 1001; areas = area_of 2 Out 0x1100 0x1600 1 2 ∷ area_of 3 In 0x1180 0x1a00 2 12 ∷ [] }

abbrev pub opened : History
opened = Opened (record { alias = 0; slaves = axis ∷ [] } ∷ []) ∷ []

abbrev pub owed_count : History → ℕ
owed_count history = length (owed_blocks history)

-- a frame of datagrams that comes back, without padding
abbrev pub back : ℕ → List Part → Step
back serial parts = Arrives (carried_frame (replicate 6 0xff) 2 serial parts [])

-- a register write of so many bytes that comes back from a station
abbrev pub written_at : ℕ → ℕ → ℕ → ℕ → Part
written_at station register size counter = record {
  command = Fpwr;
  address = station_address station register;
  interrupt = 0;
  bytes = replicate size 0;
  counter = counter;
}

-- the frame of one register write that comes back from the axis
abbrev pub write_back : ℕ → ℕ → ℕ → ℕ → Step
write_back serial register size counter = back serial (written_at 1001 register size counter ∷ [])

abbrev pub data_back : ℕ → List ℕ → ℕ → Part
data_back address bytes counter = record { command = Lrw; address = address; interrupt = 0; bytes = bytes; counter = counter }

-- the bytes before the datagrams of a frame with a low serial, by its EtherCAT header's low byte
abbrev pub head_of : ℕ → ℕ → List ℕ
head_of serial size = replicate 6 0xff ++ 0x02 ∷ 0 ∷ 0 ∷ 0 ∷ 0 ∷ serial ∷ 0x88 ∷ 0xa4 ∷ size ∷ 0x10 ∷ []

-- the four register blocks of the axis are written one by one, and each write is answered

abbrev pub four_answers : ℕ → List Step
four_answers serial =
    SendsWrite ∷ write_back serial 0x0810 8 1
    ∷ SendsWrite ∷ write_back (serial + 1) 0x0600 16 1
    ∷ SendsWrite ∷ write_back (serial + 2) 0x0818 8 1
    ∷ SendsWrite ∷ write_back (serial + 3) 0x0610 16 1
    ∷ []

abbrev pub written : History
written = entries_after_all opened (four_answers 0)

-- the record once the axis' blocks are written and its task has posted

abbrev pub posted : History
posted = entries_after_all written (Posts 0 0 (2 ∷ []) ∷ [])

abbrev pub sent_once : History
sent_once = entries_after_all posted (SendsTasks (0 ∷ []) ∷ [])

abbrev pub inputs_back : List ℕ
inputs_back =
    0xff ∷ 0xff ∷ 0xff ∷ 0xff ∷ 0xff ∷ 0xff ∷ 0x02 ∷ 0x00 ∷ 0x00 ∷ 0x00 ∷ 0x00 ∷ 0x04 ∷ 0x88 ∷ 0xa4 ∷ 0x0f ∷ 0x10
    ∷ 0x0c ∷ 0x04 ∷ 0x00 ∷ 0x00 ∷ 0x00 ∷ 0x01 ∷ 0x03 ∷ 0x00 ∷ 0x00 ∷ 0x00 ∷ 0x02 ∷ 0x34 ∷ 0x0a ∷ 0x03 ∷ 0x00 ∷ []

-- the axis' outputs move from task 0 to task 1

abbrev pub to_task_1 : Step
to_task_1 = Edits (Move 1001 0 1)

abbrev pub moved : History
moved = entries_after_all posted (
    to_task_1
    ∷ SendsWrite ∷ write_back 4 0x0600 16 1
    ∷ SendsWrite ∷ write_back 5 0x0610 16 1
    ∷ [])
