-- Laws of a logical datagram through a programmed line: its data, and the machines after it. Each is the contract of a function of `carrying_laws`.
use Rattle.std.specs.Prelude.{All, ◌≡◌, ℕ, ◌+◌, ◌*◌, ◌<◌, List, Some, length, slice_get}
use Rattle.hc_bits.specs.Bits.{AreBytes, bit_of}
use Rattle.hc_records.specs.declared.records.Dir.TheVariants.{Out, In}
use Rattle.hc_records.specs.Line.{Member, State, line}
use Rattle.hc_machine.specs.declared.limits.TheConstants.{MEMORY_BITS}
use Rattle.hc_exchange.specs.PairLaws.{IsConfigurable}
use Rattle.hc_exchange.specs.Writing.{AreMachinesOf}
use Rattle.hc_exchange.specs.WritingLaws.{machines_written}
use Rattle.hc_exchange.specs.Carrying.{AreProgrammed, LinePairsIn, data_through, memories_after}

-- the machines of a line that can be configured are programmed; the k-th of them is a slave's
pub record Meets (state : State) (machines : List (List ℕ)) (k : ℕ) (member : Member) (memory : List ℕ) : Type 0 where
  pub configurable : IsConfigurable state
  pub programmed : AreProgrammed (line state) machines
  pub member_is : slice_get (line state) k ≡ Some member
  pub memory_is : slice_get machines k ≡ Some memory

-- a bit of the data that is an input's becomes the bit of its slave's memory
abbrev pub InputsAreBroughtBack : Type 0
InputsAreBroughtBack =
    (state : State) (machines : List (List ℕ)) (k : ℕ) (member : Member) (memory bytes : List ℕ) (from bit m : ℕ) → Meets state machines k member memory
    → bit < 8 * length bytes → LinePairsIn (line state) In member.slave.station (from + bit) m → bit_of (data_through machines from bytes) bit ≡ bit_of memory m

-- a bit of the data that is no input's comes back as it was sent
abbrev pub OtherBitsComeBack : Type 0
OtherBitsComeBack =
    (state : State) (machines : List (List ℕ)) (bytes : List ℕ) (from bit : ℕ) → IsConfigurable state → AreProgrammed (line state) machines
    → bit < 8 * length bytes → ((station m : ℕ) → ¬ LinePairsIn (line state) In station (from + bit) m) → bit_of (data_through machines from bytes) bit ≡ bit_of bytes bit

-- the machine of a slave after the datagram has the sent bit wherever a bit of the data is an output's
abbrev pub OutputsArrive : Type 0
OutputsArrive =
    (state : State) (machines : List (List ℕ)) (k : ℕ) (member : Member) (memory memory' bytes : List ℕ) (from bit m : ℕ) → Meets state machines k member memory
    → slice_get (memories_after machines from bytes) k ≡ Some memory' → bit < 8 * length bytes → LinePairsIn (line state) Out member.slave.station (from + bit) m
    → bit_of memory' m ≡ bit_of bytes bit

-- each bit of a slave's memory that no output area pairs with a bit of the data is as it was
abbrev pub OtherMemoryStays : Type 0
OtherMemoryStays =
    (state : State) (machines : List (List ℕ)) (k : ℕ) (member : Member) (memory memory' bytes : List ℕ) (from m : ℕ) → Meets state machines k member memory
    → slice_get (memories_after machines from bytes) k ≡ Some memory' → m < MEMORY_BITS
    → ((bit : ℕ) → bit < 8 * length bytes → ¬ LinePairsIn (line state) Out member.slave.station (from + bit) m) → bit_of memory' m ≡ bit_of memory m

-- as many bytes of data come back, and the machines are programmed as before
pub record StaysProgrammed (line : List Member) (machines : List (List ℕ)) (from : ℕ) (bytes : List ℕ) : Type 0 where
  pub size : length (data_through machines from bytes) ≡ length bytes
  pub programmed : AreProgrammed line (memories_after machines from bytes)

-- a line stays programmed after any datagram
abbrev pub LinesStayProgrammed : Type 0
LinesStayProgrammed =
    (state : State) (machines : List (List ℕ)) (bytes : List ℕ) (from : ℕ) → IsConfigurable state → AreProgrammed (line state) machines → StaysProgrammed (line state) machines from bytes

-- the machines of a line after the frames that write all its blocks are programmed, if each number of their memories was a byte
abbrev pub WrittenLinesAreProgrammed : Type 0
WrittenLinesAreProgrammed =
    (state : State) (machines : List (List ℕ)) → IsConfigurable state → AreMachinesOf (line state) machines → All AreBytes machines
    → AreProgrammed (line state) (machines_written (line state) machines)
