-- Logical datagrams one after another, each in a frame of its own, through the machines of a programmed line.
use Rattle.std.specs.Prelude.{◌≡◌, ◌≢◌, ℕ, ◌+◌, ◌*◌, ◌<◌, AllPairs, List, [], ◌∷◌, Some, length, slice_get}
use Rattle.hc_bits.specs.Bits.{bit_of}
use Rattle.hc_records.specs.declared.records.Dir.TheVariants.{Out, In}
use Rattle.hc_records.specs.Line.{Member, State, line}
use Rattle.hc_machine.specs.declared.limits.TheConstants.{MEMORY_BITS}
use Rattle.hc_exchange.specs.PairLaws.{IsConfigurable}
use Rattle.hc_exchange.specs.Carrying.{AreProgrammed, LinePairsIn, data_through, memories_after}
use Rattle.hc_exchange.specs.CarryingLaws.{Meets}

-- a logical datagram: its first logical bit and its data
pub record Logical : Type 0 where
  pub from : ℕ
  pub bytes : List ℕ

-- the data of datagrams as they come back: each meets the machines as those before it left them
abbrev pub all_through : List (List ℕ) → List Logical → List (List ℕ)
all_through machines [] = []
all_through machines (d ∷ ds) = data_through machines d.from d.bytes ∷ all_through (memories_after machines d.from d.bytes) ds

-- the machines after logical datagrams, one after another
abbrev pub all_after_frames : List (List ℕ) → List Logical → List (List ℕ)
all_after_frames machines [] = machines
all_after_frames machines (d ∷ ds) = all_after_frames (memories_after machines d.from d.bytes) ds

-- datagram n of a list, counted from 0, and one of its bits
pub record HasBit (ds : List Logical) (n : ℕ) (d : Logical) (bit : ℕ) : Type 0 where
  pub is : slice_get ds n ≡ Some d
  pub below : bit < 8 * length d.bytes

-- two datagrams have no logical bit in common
abbrev pub LogicalsAreApart : Logical → Logical → Type 0
LogicalsAreApart a b = (k l : ℕ) → k < 8 * length a.bytes → l < 8 * length b.bytes → a.from + k ≢ b.from + l

-- each input's bit of each datagram's data comes back as it was in its slave's memory before the first datagram
abbrev pub AllInputsAreBroughtBack : Type 0
AllInputsAreBroughtBack =
    (state : State) (machines : List (List ℕ)) (k : ℕ) (member : Member) (memory : List ℕ) (ds : List Logical) (n : ℕ) (d : Logical) (bit m : ℕ) (came : List ℕ)
    → Meets state machines k member memory → HasBit ds n d bit → LinePairsIn (line state) In member.slave.station (d.from + bit) m → slice_get (all_through machines ds) n ≡ Some came
    → bit_of came bit ≡ bit_of memory m

-- if the datagrams are apart, each output's bit of each of them is the bit of its slave's memory after the last
abbrev pub AllOutputsArrive : Type 0
AllOutputsArrive =
    (state : State) (machines : List (List ℕ)) (k : ℕ) (member : Member) (memory memory' : List ℕ) (ds : List Logical) (n : ℕ) (d : Logical) (bit m : ℕ)
    → Meets state machines k member memory → AllPairs LogicalsAreApart ds → HasBit ds n d bit → LinePairsIn (line state) Out member.slave.station (d.from + bit) m
    → slice_get (all_after_frames machines ds) k ≡ Some memory' → bit_of memory' m ≡ bit_of d.bytes bit

-- each bit of a slave's memory that no output area pairs with a bit of the datagrams is as it was
abbrev pub AllOtherMemoryStays : Type 0
AllOtherMemoryStays =
    (state : State) (machines : List (List ℕ)) (k : ℕ) (member : Member) (memory memory' : List ℕ) (ds : List Logical) (m : ℕ)
    → Meets state machines k member memory → m < MEMORY_BITS
    → ((n : ℕ) (d : Logical) (bit : ℕ) → HasBit ds n d bit → ¬ LinePairsIn (line state) Out member.slave.station (d.from + bit) m)
    → slice_get (all_after_frames machines ds) k ≡ Some memory' → bit_of memory' m ≡ bit_of memory m

-- the line is programmed after the datagrams
abbrev pub SequencesKeepTheLine : Type 0
SequencesKeepTheLine =
    (state : State) (machines : List (List ℕ)) (ds : List Logical) → IsConfigurable state → AreProgrammed (line state) machines → AreProgrammed (line state) (all_after_frames machines ds)
