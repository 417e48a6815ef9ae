-- A frame that arrived: the fault why it cannot be read, or its serial and its datagrams.
use Rattle.std.specs.Prelude.{ℕ, List, Option, Some, None, Result, Ok, Err}
use Rattle.hc_frames.specs.Arrived.{Reading, fault_in, reading_of}
use Rattle.hc_frames.specs.FrameText.{WireDatagram}
use Rattle.hc_frames.specs.declared.reading.faults.FrameFault.{FrameFault}

-- a datagram that came back: its command and address, its interrupt field, its data and its working counter
abbrev pub Part : Type 0
Part = WireDatagram

-- a frame that arrived and can be read: its serial and its datagrams
abbrev pub Arrival : Type 0
Arrival = Reading

-- the arrival if there is no fault, otherwise the fault
abbrev pub read_unless : Option FrameFault → Arrival → Result Arrival FrameFault
read_unless None arrival = Ok arrival
read_unless (Some fault) arrival = Err fault

-- the reading of bytes that arrived: the first fault why they cannot be read (`fault_in`), or their serial and datagrams
abbrev pub arrival_in : List ℕ → Result Arrival FrameFault
arrival_in bytes = read_unless (fault_in bytes) (reading_of bytes)
