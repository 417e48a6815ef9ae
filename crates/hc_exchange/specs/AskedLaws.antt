-- Laws of logical datagrams through the machines of a line that carry each of their bits, whatever the machines' other FMMUs pair. Each is stated for the
-- logical bits that are asked about, and is the contract of a function of `task_laws` for the bits of each task. The laws of programmed lines are the case of
-- all logical bits.
use Rattle.std.specs.Prelude.{◌≡◌, Bool, true, ℕ, ◌+◌, ◌*◌, ◌<◌, AllPairs, List, Some, length, slice_get}
use Rattle.hc_bits.specs.Bits.{bit_of}
use Rattle.hc_records.specs.AddressLaws.{LineHasDatagram}
use Rattle.hc_records.specs.declared.records.Dir.TheVariants.{Out, In}
use Rattle.hc_records.specs.Image.{datagram_length, expected_counter, logical_address, task_places}
use Rattle.hc_records.specs.Line.{Member, State, line}
use Rattle.hc_machine.specs.declared.limits.TheConstants.{MEMORY_BITS}
use Rattle.hc_exchange.specs.PairLaws.{IsConfigurable}
use Rattle.hc_exchange.specs.Carrying.{AreAsked, AreCarrying, AreCarryingTask, AreProgrammed, LinePairsIn, IsBitOfTask, count_through, data_through, memories_after}
use Rattle.hc_exchange.specs.Sequences.{HasBit, Logical, LogicalsAreApart, all_after_frames, all_through}

-- a law of the logical bits that are asked about holds for the bits of each task of each line
abbrev pub HoldsForTasks : ((ℕ → Type 0) → State → Type 0) → Type 0
HoldsForTasks Law = (state : State) (task : ℕ) → Law (IsBitOfTask (line state) task) state

-- the machines of a programmed line carry any logical bits
abbrev pub ProgrammedLinesCarry : (ℕ → Type 0) → State → Type 0
ProgrammedLinesCarry Asked state =
    (machines : List (List ℕ)) → IsConfigurable state → AreProgrammed (line state) machines → AreCarrying Asked (line state) machines

-- machines that carry logical bits carry each choice of them
abbrev pub LessAskedCarries : Type 0
LessAskedCarries =
    (asked less : ℕ → Bool) (state : State) (machines : List (List ℕ)) → ((x : ℕ) → less x ≡ true → asked x ≡ true) → AreCarrying (λ x. asked x ≡ true) (line state) machines
    → AreCarrying (λ x. less x ≡ true) (line state) machines

-- the machines of a line carry the bits asked about; the k-th of them is a slave's
pub record MeetsCarrying (Asked : ℕ → Type 0) (state : State) (machines : List (List ℕ)) (k : ℕ) (member : Member) (memory : List ℕ) : Type 0 where
  pub configurable : IsConfigurable state
  pub carrying : AreCarrying Asked (line state) machines
  pub member_is : slice_get (line state) k ≡ Some member
  pub memory_is : slice_get machines k ≡ Some memory

-- a bit of the data that is an input's becomes the bit of its slave's memory
abbrev pub AskedInputsAreBroughtBack : (ℕ → Type 0) → State → Type 0
AskedInputsAreBroughtBack Asked state =
    (machines : List (List ℕ)) (k : ℕ) (member : Member) (memory bytes : List ℕ) (from bit m : ℕ)
    → MeetsCarrying Asked state machines k member memory → AreAsked Asked from bytes
    → bit < 8 * length bytes → LinePairsIn (line state) In member.slave.station (from + bit) m → bit_of (data_through machines from bytes) bit ≡ bit_of memory m

-- a bit of the data that is no input's comes back as it was sent
abbrev pub OtherAskedBitsComeBack : (ℕ → Type 0) → State → Type 0
OtherAskedBitsComeBack Asked state =
    (machines : List (List ℕ)) (bytes : List ℕ) (from bit : ℕ) → IsConfigurable state → AreCarrying Asked (line state) machines
    → AreAsked Asked from bytes → bit < 8 * length bytes → ((station m : ℕ) → ¬ LinePairsIn (line state) In station (from + bit) m)
    → bit_of (data_through machines from bytes) bit ≡ bit_of bytes bit

-- a slave's memory after the datagram has the sent bit wherever a bit of the data is an output's
abbrev pub AskedOutputsArrive : (ℕ → Type 0) → State → Type 0
AskedOutputsArrive Asked state =
    (machines : List (List ℕ)) (k : ℕ) (member : Member) (memory memory' bytes : List ℕ) (from bit m : ℕ)
    → MeetsCarrying Asked state machines k member memory → AreAsked Asked from bytes → slice_get (memories_after machines from bytes) k ≡ Some memory'
    → bit < 8 * length bytes → LinePairsIn (line state) Out member.slave.station (from + bit) m → bit_of memory' m ≡ bit_of bytes bit

-- each bit of a slave's memory that no output area pairs with a bit of the data is as it was, in its registers too
abbrev pub MemoryBesideAskedStays : (ℕ → Type 0) → State → Type 0
MemoryBesideAskedStays Asked state =
    (machines : List (List ℕ)) (k : ℕ) (member : Member) (memory memory' bytes : List ℕ) (from m : ℕ)
    → MeetsCarrying Asked state machines k member memory → AreAsked Asked from bytes → slice_get (memories_after machines from bytes) k ≡ Some memory' → m < MEMORY_BITS
    → ((bit : ℕ) → bit < 8 * length bytes → ¬ LinePairsIn (line state) Out member.slave.station (from + bit) m) → bit_of memory' m ≡ bit_of memory m

-- as many bytes of data come back, and the machines carry the bits as before
pub record StaysCarrying (Asked : ℕ → Type 0) (line : List Member) (machines : List (List ℕ)) (from : ℕ) (bytes : List ℕ) : Type 0 where
  pub size : length (data_through machines from bytes) ≡ length bytes
  pub carrying : AreCarrying Asked line (memories_after machines from bytes)

-- a line stays carrying after any datagram of bits that are asked about
abbrev pub LinesStayCarrying : (ℕ → Type 0) → State → Type 0
LinesStayCarrying Asked state =
    (machines : List (List ℕ)) (bytes : List ℕ) (from : ℕ) → IsConfigurable state → AreCarrying Asked (line state) machines
    → AreAsked Asked from bytes → StaysCarrying Asked (line state) machines from bytes

-- machines that carry a task add to the working counter of one of its datagrams the expected counter
abbrev pub TaskCountersAreExpected : Type 0
TaskCountersAreExpected =
    (state : State) (machines : List (List ℕ)) (task datagram : ℕ) → IsConfigurable state → AreCarryingTask (line state) task machines → LineHasDatagram (line state) task datagram
    → count_through machines (8 * logical_address task datagram) (datagram_length (task_places task (line state)) datagram) ≡ expected_counter task datagram (line state)

-- each bit of some datagrams is asked about
abbrev pub AllAreAsked : (ℕ → Type 0) → List Logical → Type 0
AllAreAsked Asked ds = (n : ℕ) (d : Logical) (bit : ℕ) → HasBit ds n d bit → Asked (d.from + bit)

-- each input's bit of each datagram's data comes back as it was in its slave's memory before the first datagram
abbrev pub AllAskedInputsAreBroughtBack : (ℕ → Type 0) → State → Type 0
AllAskedInputsAreBroughtBack Asked state =
    (machines : List (List ℕ)) (k : ℕ) (member : Member) (memory : List ℕ) (ds : List Logical) (n : ℕ) (d : Logical) (bit m : ℕ) (came : List ℕ)
    → MeetsCarrying Asked state machines k member memory → AllAreAsked Asked ds → HasBit ds n d bit → LinePairsIn (line state) In member.slave.station (d.from + bit) m
    → slice_get (all_through machines ds) n ≡ Some came → bit_of came bit ≡ bit_of memory m

-- if the datagrams are apart, each output's bit of each of them is the bit of its slave's memory after the last
abbrev pub AllAskedOutputsArrive : (ℕ → Type 0) → State → Type 0
AllAskedOutputsArrive Asked state =
    (machines : List (List ℕ)) (k : ℕ) (member : Member) (memory memory' : List ℕ) (ds : List Logical) (n : ℕ) (d : Logical) (bit m : ℕ)
    → MeetsCarrying Asked state machines k member memory → AllAreAsked Asked ds → AllPairs LogicalsAreApart ds → HasBit ds n d bit
    → LinePairsIn (line state) Out member.slave.station (d.from + bit) m → slice_get (all_after_frames machines ds) k ≡ Some memory' → bit_of memory' m ≡ bit_of d.bytes bit

-- each bit of a slave's memory that no output area pairs with a bit of the datagrams is after the last one as it was before the first
abbrev pub MemoryBesideAllAskedStays : (ℕ → Type 0) → State → Type 0
MemoryBesideAllAskedStays Asked state =
    (machines : List (List ℕ)) (k : ℕ) (member : Member) (memory memory' : List ℕ) (ds : List Logical) (m : ℕ)
    → MeetsCarrying Asked state machines k member memory → AllAreAsked Asked ds → m < MEMORY_BITS
    → ((n : ℕ) (d : Logical) (bit : ℕ) → HasBit ds n d bit → ¬ LinePairsIn (line state) Out member.slave.station (d.from + bit) m)
    → slice_get (all_after_frames machines ds) k ≡ Some memory' → bit_of memory' m ≡ bit_of memory m

-- the machines carry the bits after the datagrams too
abbrev pub SequencesKeepCarrying : (ℕ → Type 0) → State → Type 0
SequencesKeepCarrying Asked state =
    (machines : List (List ℕ)) (ds : List Logical) → IsConfigurable state → AllAreAsked Asked ds → AreCarrying Asked (line state) machines
    → AreCarrying Asked (line state) (all_after_frames machines ds)
