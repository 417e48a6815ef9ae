-- An exchange over a programmed line: each bit of each variable is carried, and nothing else.
use Rattle.std.specs.Prelude.{◌≡◌, ℕ, ◌+◌, ◌*◌, ◌<◌, ◌≤◌, Contains, List, [], ◌∷◌, None, Some, length, slice_get}
use Rattle.hc_bits.specs.Bits.{bit_of}
use Rattle.hc_records.specs.declared.limits.TheConstants.{MEMORY_START}
use Rattle.hc_records.specs.declared.records.Area.{Area}
use Rattle.hc_records.specs.declared.records.Dir.TheVariants.{Out, In}
use Rattle.hc_records.specs.Area.{assigned_entries, width}
use Rattle.hc_records.specs.Image.{VariablePlace, datagram_length, expected_counter, logical_address, task_places, variables_from}
use Rattle.hc_records.specs.ImageLaws.{place_bit}
use Rattle.hc_records.specs.Line.{Member}
use Rattle.hc_registers.specs.Blocks.{line_blocks}
use Rattle.hc_frames.specs.Arrived.{fault_in, reading_of}
use Rattle.hc_machine.specs.declared.limits.TheConstants.{MEMORY_BITS}
use Rattle.hc_exchange.specs.Carrying.{AreCarryingTask, logical_part}
use Rattle.hc_exchange.specs.Sent.{IsVariable, task_datagram_count}
use Rattle.hc_exchange.specs.Wire.{WireCarriesTask, WireMachine, line_machines, outside_machines, wire_machines}
use Rattle.hc_exchange.specs.Writing.{CanAllBeProgrammed}

-- the frame of a datagram of a task came back: it is read, with its serial after those of the datagrams before it, at its logical address, with these data, and with the expected counter
pub record DatagramCameBack (line : List Member) (task serial d : ℕ) (frame bytes : List ℕ) : Type 0 where
  pub readable : fault_in frame ≡ None
  pub reading : reading_of frame
      ≡ record { serial = serial + d; parts = logical_part (logical_address task d) bytes (expected_counter task d line) ∷ [] }
  pub size : length bytes ≡ datagram_length (task_places task line) d

-- a variable of `bits` bits is in the memory of the slave at a position of the line: in an area of its record, from this bit of memory on
pub record VariableLiesInMemory (line : List Member) (variable bits position m : ℕ) : Type 0 where
  pub member : Member
  pub index : ℕ
  pub area : Area
  pub offset : ℕ
  pub in_line : slice_get line position ≡ Some member
  pub in_record : slice_get member.slave.areas index ≡ Some area
  pub entry : Contains (variables_from 0 (assigned_entries area)) (variable, (offset, bits))
  pub at : m ≡ 8 * area.phys + offset

-- a variable is in one place of one slave's memory, and its bits there are these
pub record HasInMemory (line : List Member) (machines : List (List ℕ)) (variable bits : ℕ) (bit : ℕ → ℕ) : Type 0 where
  pub position : ℕ
  pub m : ℕ
  pub memory : List ℕ
  pub is_placed : VariableLiesInMemory line variable bits position m
  pub alone : (other n : ℕ) → VariableLiesInMemory line variable bits other n → (other ≡ position) × (n ≡ m)
  pub machine : slice_get machines position ≡ Some memory
  pub same : (k : ℕ) → k < bits → bit_of memory (m + k) ≡ bit k

-- memory bit m of a slave is bit k of one of its output areas in the task
pub record IsOutputBit (task : ℕ) (member : Member) (area : Area) (m k : ℕ) : Type 0 where
  pub index : ℕ
  pub in_record : slice_get member.slave.areas index ≡ Some area
  pub in_task : area.task ≡ task
  pub output : area.dir ≡ Out
  pub below : k < width area
  pub at : m ≡ 8 * area.phys + k

-- bit k of an area belongs to none of its variables
abbrev pub IsGapBit : Area → ℕ → Type 0
IsGapBit area k = (variable offset bits : ℕ) → Contains (variables_from 0 (assigned_entries area)) (variable, (offset, bits)) → offset ≤ k → ¬ (k < offset + bits)

-- a slave's memory after an exchange: outside the slave's output areas in the task process memory is as it was, and in them the bits of no variable are 0
pub record KeepsTheRest (task : ℕ) (member : Member) (memory memory' : List ℕ) : Type 0 where
  pub gaps : (area : Area) (m k : ℕ) → IsOutputBit task member area m k → IsGapBit area k → bit_of memory' m ≡ 0
  pub rest : (m : ℕ) → 8 * MEMORY_START ≤ m → m < MEMORY_BITS → ((area : Area) (k : ℕ) → ¬ IsOutputBit task member area m k) → bit_of memory' m ≡ bit_of memory m

-- an exchange of a task over the machines of a line, with serials from this one on and the bytes of the task's output image
pub record IsExchanged (line : List Member) (task serial : ℕ) (image : List ℕ) (machines frames machines' : List (List ℕ)) : Type 0 where
  pub came : ℕ → List ℕ
  pub count : length frames ≡ task_datagram_count line task
  pub back : (d : ℕ) (frame : List ℕ) → slice_get frames d ≡ Some frame → DatagramCameBack line task serial d frame (came d)
  pub inputs : (variable : ℕ) (place : VariablePlace) → IsVariable line task In variable place
      → HasInMemory line machines variable place.bits (λ k. bit_of (came place.datagram) (place.bit + k))
  pub outputs : (variable : ℕ) (place : VariablePlace) → IsVariable line task Out variable place
      → HasInMemory line machines' variable place.bits (λ k. bit_of image (place_bit line place + k))
  pub many : length machines' ≡ length machines
  pub rest : (position : ℕ) (member : Member) (memory memory' : List ℕ) → slice_get line position ≡ Some member
      → slice_get machines position ≡ Some memory → slice_get machines' position ≡ Some memory' → KeepsTheRest task member memory memory'

-- machines that can be programmed for the line exchange the values after the writes of its blocks
abbrev pub IsExchangedIfProgrammable : List Member → ℕ → List ℕ → List (List ℕ) → List (List ℕ) → List (List ℕ) → Type 0
IsExchangedIfProgrammable line task image machines frames machines' = CanAllBeProgrammed line machines → IsExchanged line task (length (line_blocks line)) image machines frames machines'

-- machines exchange the values if they carry the task, whatever other tasks' blocks they have
abbrev pub IsExchangedByCarriers : List Member → ℕ → ℕ → List ℕ → List (List ℕ) → List (List ℕ) → List (List ℕ) → Type 0
IsExchangedByCarriers line task serial image machines frames machines' = AreCarryingTask line task machines → IsExchanged line task serial image machines frames machines'

-- an exchange over a wire that carries the task: the line's machines exchange the values, the machines outside the line stay as they were, and the wire carries
-- the task as before
pub record IsExchangedOnWire (line : List Member) (task serial : ℕ) (image : List ℕ) (wire : List WireMachine) (frames machines' : List (List ℕ)) : Type 0 where
  pub wire' : List WireMachine
  pub machines_are : machines' ≡ wire_machines wire'
  pub exchanged : IsExchanged line task serial image (line_machines wire) frames (line_machines wire')
  pub outside : outside_machines wire' ≡ outside_machines wire
  pub carries : WireCarriesTask line task wire'

-- the machines of a wire that carries the task exchange its values
abbrev pub IsExchangedIfCarrying : List Member → ℕ → ℕ → List ℕ → List (List ℕ) → List (List ℕ) → List (List ℕ) → Type 0
IsExchangedIfCarrying line task serial image machines frames machines' =
    (wire : List WireMachine) → machines ≡ wire_machines wire → WireCarriesTask line task wire → IsExchangedOnWire line task serial image wire frames machines'
