-- Laws of frames of logical datagrams through the machines of a line, and of their working counters. Each is the contract of a function of `carrying_laws`.
use Rattle.std.specs.Prelude.{◌≡◌, All, None, ℕ, ◌*◌, ◌%◌, List, [], ◌∷◌, length, map}
use Rattle.hc_records.specs.AddressLaws.{LineHasDatagram}
use Rattle.hc_records.specs.Image.{datagram_length, expected_counter, logical_address, task_places}
use Rattle.hc_records.specs.Line.{State, line}
use Rattle.hc_frames.specs.Arrived.{fault_in, reading_of}
use Rattle.hc_frames.specs.FrameText.{WireDatagram, frame_text, lrw, sent_on_wire}
use Rattle.hc_frames.specs.Laws.{CanBeCarried}
use Rattle.hc_machine.specs.declared.limits.TheConstants.{MEMORY_BYTES}
use Rattle.hc_segment.specs.Line.{frame_through, machines_after_frame}
use Rattle.hc_exchange.specs.PairLaws.{IsConfigurable}
use Rattle.hc_exchange.specs.Carrying.{AreProgrammed, count_through, data_through, logical_part, memories_after}
use Rattle.hc_exchange.specs.Sequences.{Logical, all_after_frames}

-- the frame of a logical datagram after machines: it is read, with the data and the counter that they make, and the machines are as the datagram leaves them
pub record PassesLogical (machines : List (List ℕ)) (serial address : ℕ) (bytes frame : List ℕ) : Type 0 where
  pub readable : fault_in (frame_through machines frame) ≡ None
  pub reading : reading_of (frame_through machines frame)
      ≡ record { serial = serial; parts = logical_part address (data_through machines (8 * address) bytes) (count_through machines (8 * address) (length bytes) % 65536) ∷ [] }
  pub memories : machines_after_frame machines frame ≡ memories_after machines (8 * address) bytes

-- `PassesLogical` holds for the frame of each logical datagram, as it is sent
abbrev pub LogicalFramesPass : Type 0
LogicalFramesPass =
    (machines : List (List ℕ)) (serial address : ℕ) (bytes : List ℕ) → All (λ m. length m ≡ MEMORY_BYTES) machines → CanBeCarried serial (sent_on_wire (lrw address bytes) ∷ [])
    → PassesLogical machines serial address bytes (frame_text serial (lrw address bytes ∷ []))

-- the machines of a programmed line add to the working counter of a task's datagram the expected counter
abbrev pub CountersAreExpected : Type 0
CountersAreExpected =
    (state : State) (machines : List (List ℕ)) (task datagram : ℕ) → IsConfigurable state → AreProgrammed (line state) machines → LineHasDatagram (line state) task datagram
    → count_through machines (8 * logical_address task datagram) (datagram_length (task_places task (line state)) datagram) ≡ expected_counter task datagram (line state)

-- a logical datagram to be sent: its logical address and its data
pub record Addressed : Type 0 where
  pub address : ℕ
  pub bytes : List ℕ

-- a logical datagram as its first logical bit and its data
abbrev pub logical_of : Addressed → Logical
logical_of d = record { from = 8 * d.address; bytes = d.bytes }

-- the datagrams as they come back if each goes through machines in a frame of its own, one after another
abbrev pub datagrams_after_machines : List (List ℕ) → List Addressed → List WireDatagram
datagrams_after_machines machines [] = []
datagrams_after_machines machines (d ∷ ds) =
    logical_part d.address (data_through machines (8 * d.address) d.bytes) (count_through machines (8 * d.address) (length d.bytes) % 65536)
    ∷ datagrams_after_machines (memories_after machines (8 * d.address) d.bytes) ds

-- the frame that datagrams share is read after machines: its datagrams and the machines are as if each datagram had gone in a frame of its own, one after another
pub record PassesAll (machines : List (List ℕ)) (serial : ℕ) (ds : List Addressed) (frame : List ℕ) : Type 0 where
  pub readable : fault_in (frame_through machines frame) ≡ None
  pub reading : reading_of (frame_through machines frame) ≡ record { serial = serial; parts = datagrams_after_machines machines ds }
  pub memories : machines_after_frame machines frame ≡ all_after_frames machines (map logical_of ds)

-- `PassesAll` holds for each frame of logical datagrams, as it is sent
abbrev pub SharedFramesPass : Type 0
SharedFramesPass =
    (machines : List (List ℕ)) (serial : ℕ) (ds : List Addressed) → All (λ m. length m ≡ MEMORY_BYTES) machines
    → CanBeCarried serial (map (λ d. sent_on_wire (lrw d.address d.bytes)) ds)
    → PassesAll machines serial ds (frame_text serial (map (λ d. lrw d.address d.bytes) ds))
