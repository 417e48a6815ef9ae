-- A logical datagram through the machines of a line that carry each of its bits.
use Rattle.std.proofs.Common.{◌≡◌, ℕ, zero, suc, ◌+◌, ◌*◌, ◌<◌, ◌∙◌, List, [], ◌∷◌, length, refl, sym, ap, subst, arith}
use Rattle.std.specs.Prelude.{AllPairs, Contains, Some, slice_get}
use Rattle.std.specs.List.{AllZip}
use Rattle.std.proofs.lemmas.List.Elements.{All-contains}
use Rattle.std.proofs.lemmas.Option.{get_or_from_slice_get, slice_get_within}
use Rattle.hc_bits.specs.Bits.{bit_of}
use Rattle.hc_records.specs.declared.records.Dir.TheVariants.{Out, In}
use Rattle.hc_records.specs.Line.{Member, State, line}
use Rattle.hc_records.proofs.lemmas.Lists.{AllPairs-head, AllPairs-tail}
use Rattle.hc_records.proofs.lemmas.Choices.{contains-first, contains-later}
use Rattle.hc_machine.specs.Logical.{logical_data, logical_memory}
use Rattle.hc_exchange.proofs.lemmas.Members.{KeepsLine, stays-line, one-station}
use Rattle.hc_exchange.specs.Carrying.{AreAsked, AreCarrying, CarriesAsked, LinePairsIn, IsProgrammedMachine, data_through, memories_after}
use Rattle.hc_exchange.specs.CarryingLaws.{InputsAreBroughtBack, LinesStayProgrammed, Meets, OtherBitsComeBack, OtherMemoryStays, OutputsArrive}
use Rattle.hc_exchange.specs.AskedLaws.{AskedInputsAreBroughtBack, AskedOutputsArrive, LinesStayCarrying, MeetsCarrying, MemoryBesideAskedStays, OtherAskedBitsComeBack}
use Rattle.hc_machine.proofs.lemmas.Memories.{length-data}
use Rattle.hc_exchange.proofs.lemmas.Asked.{programmed-carry}
use Rattle.hc_exchange.proofs.lemmas.Slaves.{bit-arrived, bit-brought, bit-unchanged, bit-left, no-two-ways, one-carrier, stays-carrying, stays-programmed}

-- slaves of a line and their machines, one by one

pub record IsPlaced (P : Member → List ℕ → Type 0) (line : List Member) (member : Member) (memory : List ℕ) : Type 0 where
  pub in_line : Contains line member
  pub own : P member memory

zip-from : (R : Member → List ℕ → Type 0) (members : List Member) (machines : List (List ℕ)) → length machines ≡ length members
    → ((k : ℕ) (member : Member) (memory : List ℕ) → slice_get members k ≡ Some member → slice_get machines k ≡ Some memory → R member memory) → AllZip R members machines
zip-from R [] [] same each = tt
zip-from R [] (y ∷ ys) same each = absurd (omega arith)
zip-from R (x ∷ xs) [] same each = absurd (omega arith)
zip-from R (x ∷ xs) (y ∷ ys) same each = (each 0 x y refl refl, zip-from R xs ys (omega arith) (λ k member memory is is'. each (suc k) member memory is is'))

all-placed : (P : Member → List ℕ → Type 0) (line : List Member) (machines : List (List ℕ)) → length machines ≡ length line
    → ((k : ℕ) (member : Member) (memory : List ℕ) → slice_get line k ≡ Some member → slice_get machines k ≡ Some memory → P member memory) → AllZip (IsPlaced P line) line machines
all-placed P line machines count each =
    zip-from (IsPlaced P line) line machines count
    (λ k member memory is is'. record { in_line = (k, slice_get_within line k member is, get_or_from_slice_get line k member member is); own = each k member memory is is' })

-- each of them carries the bits asked about
abbrev pub IsCarrier : (ℕ → Type 0) → List Member → Member → List ℕ → Type 0
IsCarrier Asked line = IsPlaced (CarriesAsked Asked line) line

pub all-carriers : (Asked : ℕ → Type 0) (line : List Member) (machines : List (List ℕ)) → AreCarrying Asked line machines → AllZip (IsCarrier Asked line) line machines
all-carriers Asked line machines are = all-placed (CarriesAsked Asked line) line machines are.count are.each

-- the size of the data
pub length-through : (machines : List (List ℕ)) (from : ℕ) (bytes : List ℕ) → length (data_through machines from bytes) ≡ length bytes
length-through [] from bytes = refl
length-through (memory ∷ machines) from bytes = length-through machines from (logical_data memory from bytes) ∙ length-data memory bytes from

same-low : (memory bytes : List ℕ) (from bit : ℕ) → bit < 8 * length bytes → bit < 8 * length (logical_data memory from bytes)
same-low memory bytes from bit low = omega (arith, length-data memory bytes from)

pub same-asked : (Asked : ℕ → Type 0) (memory bytes : List ℕ) (from : ℕ) → AreAsked Asked from bytes → AreAsked Asked from (logical_data memory from bytes)
same-asked Asked memory bytes from asked bit low = asked bit (omega (arith, low, length-data memory bytes from))

-- a bit that no slave here reads comes back as it was

abbrev ReadsNone : List Member → ℕ → Member → Type 0
ReadsNone line x member = (m : ℕ) → ¬ (LinePairsIn line In member.slave.station x m)

left-through : (Asked : ℕ → Type 0) (line : List Member) (members : List Member) (machines : List (List ℕ)) (from bit : ℕ) (bytes : List ℕ) → KeepsLine line → AllZip (IsCarrier Asked line) members machines → AreAsked Asked from bytes
    → bit < 8 * length bytes → ((member : Member) → Contains line member → Contains members member → ReadsNone line (from + bit) member)
    → bit_of (data_through machines from bytes) bit ≡ bit_of bytes bit
left-through Asked line [] [] from bit bytes stays are_placed asked low none = refl
left-through Asked line [] (memory ∷ machines) from bit bytes stays are_placed asked low none = absurd are_placed
left-through Asked line (member ∷ members) [] from bit bytes stays are_placed asked low none = absurd are_placed
left-through Asked line (member ∷ members) (memory ∷ machines) from bit bytes stays are_placed asked low none =
    let first = are_placed.0 in
    left-through Asked line members machines from bit (logical_data memory from bytes) stays are_placed.1 (same-asked Asked memory bytes from asked) (same-low memory bytes from bit low)
    (λ other has within. none other has (contains-later member other members within))
    ∙ bit-left line member memory bytes from bit stays first.in_line first.own asked low (none member first.in_line (contains-first member members))

-- one that a slave reads is that slave's
brought-through : (Asked : ℕ → Type 0) (line : List Member) (members : List Member) (machines : List (List ℕ)) (k : ℕ) (member : Member) (memory : List ℕ) (from bit m : ℕ) (bytes : List ℕ) → KeepsLine line
    → AllZip (IsCarrier Asked line) members machines → AreAsked Asked from bytes → AllPairs (λ a b. a.rank < b.rank) members → slice_get members k ≡ Some member → slice_get machines k ≡ Some memory
    → bit < 8 * length bytes → LinePairsIn line In member.slave.station (from + bit) m → bit_of (data_through machines from bytes) bit ≡ bit_of memory m
brought-through Asked line [] machines k member memory from bit m bytes stays are_placed asked ranks is is' low input = cc
brought-through Asked line (first ∷ members) [] k member memory from bit m bytes stays are_placed asked ranks is is' low input = cc
brought-through Asked line (first ∷ members) (own ∷ machines) zero member memory from bit m bytes stays are_placed asked ranks is is' low input =
    let one : first ≡ member = cc in
    let same : own ≡ memory = cc in
    let has = are_placed.0.in_line in
    let here : LinePairsIn line In first.slave.station (from + bit) m = subst (λ (slave : Member). LinePairsIn line In slave.slave.station (from + bit) m) (sym one) input in
    left-through Asked line members machines from bit (logical_data own from bytes) stays are_placed.1 (same-asked Asked own bytes from asked) (same-low own bytes from bit low)
    (λ other in_line within n reads.
    let stations = (one-carrier line first.slave.station other.slave.station (from + bit) m n stays here.areas reads.areas).0 in
    let equal : first ≡ other = one-station line first other stays has in_line stations in
    let lower : first.rank < other.rank = All-contains (λ (b : Member). first.rank < b.rank) members other (AllPairs-head (λ (a b : Member). a.rank < b.rank) first members ranks) within in
    let ranks_same : first.rank ≡ other.rank = ap (λ (slave : Member). slave.rank) equal in
    omega arith)
    ∙ bit-brought line first own bytes from bit m stays has are_placed.0.own asked low here ∙ ap (λ (xs : List ℕ). bit_of xs m) same
brought-through Asked line (first ∷ members) (own ∷ machines) (suc k) member memory from bit m bytes stays are_placed asked ranks is is' low input =
    brought-through Asked line members machines k member memory from bit m (logical_data own from bytes) stays are_placed.1 (same-asked Asked own bytes from asked) (AllPairs-tail (λ a b. a.rank < b.rank) first members ranks) is is'
    (same-low own bytes from bit low) input

-- an output's bit reaches its slave as it was sent
arrived-through : (Asked : ℕ → Type 0) (line : List Member) (members : List Member) (machines : List (List ℕ)) (k : ℕ) (member : Member) (memory' : List ℕ) (from bit m : ℕ) (bytes : List ℕ) → KeepsLine line
    → AllZip (IsCarrier Asked line) members machines → AreAsked Asked from bytes → slice_get members k ≡ Some member → slice_get (memories_after machines from bytes) k ≡ Some memory'
    → bit < 8 * length bytes → LinePairsIn line Out member.slave.station (from + bit) m → bit_of memory' m ≡ bit_of bytes bit
arrived-through Asked line [] machines k member memory' from bit m bytes stays are_placed asked is is' low output = cc
arrived-through Asked line (first ∷ members) [] k member memory' from bit m bytes stays are_placed asked is is' low output = cc
arrived-through Asked line (first ∷ members) (own ∷ machines) zero member memory' from bit m bytes stays are_placed asked is is' low output =
    let one : first ≡ member = cc in
    let same : logical_memory own from bytes ≡ memory' = cc in
    let here : LinePairsIn line Out first.slave.station (from + bit) m = subst (λ (slave : Member). LinePairsIn line Out slave.slave.station (from + bit) m) (sym one) output in
    ap (λ (xs : List ℕ). bit_of xs m) (sym same) ∙ bit-arrived line first own bytes from bit m stays are_placed.0.in_line are_placed.0.own asked low here
arrived-through Asked line (first ∷ members) (own ∷ machines) (suc k) member memory' from bit m bytes stays are_placed asked is is' low output =
    arrived-through Asked line members machines k member memory' from bit m (logical_data own from bytes) stays are_placed.1 (same-asked Asked own bytes from asked) is is' (same-low own bytes from bit low) output
    ∙ bit-left line first own bytes from bit stays are_placed.0.in_line are_placed.0.own asked low
    (λ n input. no-two-ways line member.slave.station first.slave.station (from + bit) m n stays output input)

-- and the rest of its memory stays
unchanged-through : (Asked : ℕ → Type 0) (line : List Member) (members : List Member) (machines : List (List ℕ)) (k : ℕ) (member : Member) (memory memory' : List ℕ) (from m : ℕ) (bytes : List ℕ) → KeepsLine line
    → AllZip (IsCarrier Asked line) members machines → AreAsked Asked from bytes → slice_get members k ≡ Some member → slice_get machines k ≡ Some memory → slice_get (memories_after machines from bytes) k ≡ Some memory'
    → m < 98304 → ((bit : ℕ) → bit < 8 * length bytes → ¬ (LinePairsIn line Out member.slave.station (from + bit) m)) → bit_of memory' m ≡ bit_of memory m
unchanged-through Asked line [] machines k member memory memory' from m bytes stays are_placed asked is own_is is' low none = cc
unchanged-through Asked line (first ∷ members) [] k member memory memory' from m bytes stays are_placed asked is own_is is' low none = cc
unchanged-through Asked line (first ∷ members) (own ∷ machines) zero member memory memory' from m bytes stays are_placed asked is own_is is' low none =
    let one : first ≡ member = cc in
    let own_same : own ≡ memory = cc in
    let same : logical_memory own from bytes ≡ memory' = cc in
    ap (λ (xs : List ℕ). bit_of xs m) (sym same)
    ∙ bit-unchanged line first own bytes from m stays are_placed.0.in_line are_placed.0.own asked low
    (λ bit inside output. none bit inside (subst (λ (slave : Member). LinePairsIn line Out slave.slave.station (from + bit) m) one output))
    ∙ ap (λ (xs : List ℕ). bit_of xs m) own_same
unchanged-through Asked line (first ∷ members) (own ∷ machines) (suc k) member memory memory' from m bytes stays are_placed asked is own_is is' low none =
    unchanged-through Asked line members machines k member memory memory' from m (logical_data own from bytes) stays are_placed.1 (same-asked Asked own bytes from asked) is own_is is' low
    (λ bit inside. none bit (omega (arith, inside, length-data own bytes from)))

-- what a datagram of this size keeps of a slave's machine, the datagram keeps of the line's
stable-through : (P : Member → List ℕ → Type 0) (line : List Member) (members : List Member) (machines : List (List ℕ)) (k : ℕ) (member : Member) (memory' : List ℕ) (from : ℕ) (bytes : List ℕ)
    → ((member : Member) (memory bytes' : List ℕ) → Contains line member → P member memory → length bytes' ≡ length bytes → P member (logical_memory memory from bytes'))
    → AllZip (IsPlaced P line) members machines → slice_get members k ≡ Some member → slice_get (memories_after machines from bytes) k ≡ Some memory' → P member memory'
stable-through P line [] machines k member memory' from bytes stable are_placed is is' = cc
stable-through P line (first ∷ members) [] k member memory' from bytes stable are_placed is is' = cc
stable-through P line (first ∷ members) (own ∷ machines) zero member memory' from bytes stable are_placed is is' =
    let one : first ≡ member = cc in
    let same : logical_memory own from bytes ≡ memory' = cc in
    subst (λ (slave : Member). P slave memory') one (subst (P first) same (stable first own bytes are_placed.0.in_line are_placed.0.own refl))
stable-through P line (first ∷ members) (own ∷ machines) (suc k) member memory' from bytes stable are_placed is is' =
    stable-through P line members machines k member memory' from (logical_data own from bytes)
    (λ slave memory bytes' has before long. stable slave memory bytes' has before (long ∙ length-data own bytes from)) are_placed.1 is is'

pub length-after_it : (machines : List (List ℕ)) (from : ℕ) (bytes : List ℕ) → length (memories_after machines from bytes) ≡ length machines
length-after_it [] from bytes = refl
length-after_it (memory ∷ machines) from bytes = ap suc (length-after_it machines from (logical_data memory from bytes))

-- the laws

pub asked-inputs : (Asked : ℕ → Type 0) (state : State) → AskedInputsAreBroughtBack Asked state
asked-inputs Asked state machines k member memory bytes from bit m meets asked low input =
    let members = line state in
    let stays = stays-line state meets.configurable in
    brought-through Asked members members machines k member memory from bit m bytes stays (all-carriers Asked members machines meets.carrying) asked stays.ranks meets.member_is meets.memory_is low input

pub asked-others : (Asked : ℕ → Type 0) (state : State) → OtherAskedBitsComeBack Asked state
asked-others Asked state machines bytes from bit can are asked low none =
    let members = line state in
    left-through Asked members members machines from bit bytes (stays-line state can) (all-carriers Asked members machines are) asked low (λ member has within m. none member.slave.station m)

pub asked-outputs : (Asked : ℕ → Type 0) (state : State) → AskedOutputsArrive Asked state
asked-outputs Asked state machines k member memory memory' bytes from bit m meets asked is low output =
    let members = line state in
    let stays = stays-line state meets.configurable in
    arrived-through Asked members members machines k member memory' from bit m bytes stays (all-carriers Asked members machines meets.carrying) asked meets.member_is is low output

pub asked-memory : (Asked : ℕ → Type 0) (state : State) → MemoryBesideAskedStays Asked state
asked-memory Asked state machines k member memory memory' bytes from m meets asked is low none =
    let members = line state in
    let stays = stays-line state meets.configurable in
    unchanged-through Asked members members machines k member memory memory' from m bytes stays (all-carriers Asked members machines meets.carrying) asked meets.member_is meets.memory_is is low none

pub carrying-stays : (Asked : ℕ → Type 0) (state : State) → LinesStayCarrying Asked state
carrying-stays Asked state machines bytes from can are asked =
    let members = line state in
    let stays = stays-line state can in
    record {
      size = length-through machines from bytes;
      carrying = record {
        count = length-after_it machines from bytes ∙ are.count;
        each = λ k member memory is is'.
            stable-through (CarriesAsked Asked members) members members machines k member memory from bytes
            (λ slave before bytes' has carries long. stays-carrying members slave before bytes' from stays has carries (λ bit inside. asked bit (omega (arith, inside, long))))
            (all-carriers Asked members machines are) is is';
      };
    }

-- the laws of programmed lines

abbrev pub AnyBit : ℕ → Type 0
AnyBit x = Unit {0}

pub meets-any : (state : State) (machines : List (List ℕ)) (k : ℕ) (member : Member) (memory : List ℕ) → Meets state machines k member memory → MeetsCarrying AnyBit state machines k member memory
meets-any state machines k member memory meets = record {
  configurable = meets.configurable;
  carrying = programmed-carry AnyBit state machines meets.configurable meets.programmed;
  member_is = meets.member_is;
  memory_is = meets.memory_is;
}

pub inputs-brought : InputsAreBroughtBack
inputs-brought state machines k member memory bytes from bit m meets low input =
    asked-inputs AnyBit state machines k member memory bytes from bit m (meets-any state machines k member memory meets) (λ b inside. tt) low input

pub others-back : OtherBitsComeBack
others-back state machines bytes from bit can are low none = asked-others AnyBit state machines bytes from bit can (programmed-carry AnyBit state machines can are) (λ b inside. tt) low none

pub outputs-arrive : OutputsArrive
outputs-arrive state machines k member memory memory' bytes from bit m meets is low output =
    asked-outputs AnyBit state machines k member memory memory' bytes from bit m (meets-any state machines k member memory meets) (λ b inside. tt) is low output

pub others-stay : OtherMemoryStays
others-stay state machines k member memory memory' bytes from m meets is low none =
    asked-memory AnyBit state machines k member memory memory' bytes from m (meets-any state machines k member memory meets) (λ b inside. tt) is low none

pub line-stays : LinesStayProgrammed
line-stays state machines bytes from can are =
    let members = line state in
    let stays = stays-line state can in
    record {
      size = length-through machines from bytes;
      programmed = record {
        count = length-after_it machines from bytes ∙ are.count;
        each = λ k member memory is is'.
            stable-through (IsProgrammedMachine members) members members machines k member memory from bytes
            (λ slave before bytes' has ready long. stays-programmed members slave before bytes' from stays has ready)
            (all-placed (IsProgrammedMachine members) members machines are.count are.each) is is';
      };
    }
