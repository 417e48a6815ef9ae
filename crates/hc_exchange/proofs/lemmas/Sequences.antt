-- Logical datagrams one after another through machines that carry each of their bits.
use Rattle.std.proofs.Common.{◌≡◌, ℕ, zero, suc, ◌+◌, ◌*◌, ◌<◌, ◌∙◌, List, [], ◌∷◌, length, get_or, refl, sym, ap, ap₂, subst, arith}
use Rattle.std.specs.Prelude.{Contains, Some, slice_get}
use Rattle.std.proofs.lemmas.List.Elements.{All-contains}
use Rattle.std.proofs.lemmas.Option.{get_or_from_slice_get, slice_get-get_or, slice_get_within}
use Rattle.hc_bits.specs.Bits.{bit_of}
use Rattle.hc_records.specs.declared.records.Area.{Area}
use Rattle.hc_records.specs.declared.records.Dir.TheVariants.{Out, In}
use Rattle.hc_records.specs.Line.{Member, State, line}
use Rattle.hc_records.proofs.lemmas.Lists.{AllPairs-head, AllPairs-tail}
use Rattle.hc_registers.specs.declared.fmmu.Mapping.{Mapping}
use Rattle.hc_registers.specs.Blocks.{mapping_of}
use Rattle.hc_exchange.specs.Pairs.{LinePairs, member_area_key}
use Rattle.hc_exchange.proofs.lemmas.Members.{KeepsLine, area-in-memory, area-inside, area-width, stays-line, one-index, one-station}
use Rattle.hc_exchange.specs.Carrying.{AreAsked, LinePairsIn, data_through, memories_after}
use Rattle.hc_exchange.specs.AskedLaws.{AllAreAsked, AllAskedInputsAreBroughtBack, AllAskedOutputsArrive, MeetsCarrying, MemoryBesideAllAskedStays, SequencesKeepCarrying}
use Rattle.hc_exchange.specs.Sequences.{AllInputsAreBroughtBack, AllOtherMemoryStays, AllOutputsArrive, LogicalsAreApart, Logical, SequencesKeepTheLine}
use Rattle.hc_exchange.proofs.lemmas.Lines.{AnyBit, asked-inputs, asked-memory, asked-outputs, carrying-stays, length-after_it, line-stays, meets-any}

-- a memory bit of a slave has one area, and so one logical bit and one direction

record SamePair (line : List Member) (station x y m : ℕ) (p : LinePairs line station x m) (q : LinePairs line station y m) : Type 0 where
  logical : x ≡ y
  direction : p.area.dir ≡ q.area.dir

same-bit : (first k l m phys x y : ℕ) → m ≡ phys + k → m ≡ phys + l → x ≡ first + k → y ≡ first + l → x ≡ y
same-bit first k l m phys x y is is' at_x at_y = omega arith

same-pair : (line : List Member) (station x y m : ℕ) → KeepsLine line → (p : LinePairs line station x m) → (q : LinePairs line station y m) → SamePair line station x y m p q
same-pair line station x y m stays p q =
    let is = p.is_mapped in
    let is' = q.is_mapped in
    let one : p.member ≡ q.member = one-station line p.member q.member stays is.in_line is'.in_line (p.station_is ∙ sym q.station_is) in
    let found : slice_get p.member.slave.areas q.index ≡ Some q.area = subst (λ (slave : Member). slice_get slave.slave.areas q.index ≡ Some q.area) (sym one) is'.in_record in
    let index : p.index ≡ q.index =
    one-index line p.member p.index q.index p.area q.area m p.pair.k q.pair.k stays is.in_line is.in_record found p.pair.below p.pair.memory q.pair.below q.pair.memory in
    let areas : Some p.area ≡ Some q.area = sym is.in_record ∙ ap (λ (n : ℕ). slice_get p.member.slave.areas n) index ∙ found in
    let area : p.area ≡ q.area = cc in
    let keys : mapping_of line p.area.task (member_area_key p.member p.index p.area) ≡ mapping_of line q.area.task (member_area_key q.member q.index q.area) =
    ap (λ (a : Area). mapping_of line a.task (member_area_key p.member p.index a)) area ∙ ap₂ (λ (slave : Member) (n : ℕ). mapping_of line q.area.task (member_area_key slave n q.area)) one index in
    let mappings : Some p.mapping ≡ Some q.mapping = sym is.mapped ∙ keys ∙ is'.mapped in
    let mapping : p.mapping ≡ q.mapping = cc in
    let first : 8 * p.mapping.address + p.mapping.bit ≡ 8 * q.mapping.address + q.mapping.bit = ap (λ (at : Mapping). 8 * at.address + at.bit) mapping in
    let phys : 8 * p.area.phys ≡ 8 * q.area.phys = ap (λ (a : Area). 8 * a.phys) area in
    record {
      logical = same-bit (8 * q.mapping.address + q.mapping.bit) p.pair.k q.pair.k m (8 * q.area.phys) x y (p.pair.memory ∙ ap (λ (n : ℕ). n + p.pair.k) phys) q.pair.memory
          (p.pair.logical ∙ ap (λ (n : ℕ). n + p.pair.k) first) q.pair.logical;
      direction = ap (λ (a : Area). a.dir) area;
    }

no-two-uses : (line : List Member) (station x y m : ℕ) → KeepsLine line → LinePairsIn line In station x m → LinePairsIn line Out station y m → ⊥
no-two-uses line station x y m stays input output =
    let same = (same-pair line station x y m stays input.areas output.areas).direction in
    let ways : In ≡ Out = sym input.direction ∙ same ∙ output.direction in
    cc

bit-inside : (line : List Member) (station x m : ℕ) → KeepsLine line → LinePairs line station x m → m < 98304
bit-inside line station x m stays p =
    let is = p.is_mapped in
    let end =
    area-in-memory p.area (area-inside line p.member p.index p.area stays is.in_line is.in_record) (area-width line p.member p.index p.area stays is.in_line is.in_record) in
    let below = p.pair.below in
    let memory = p.pair.memory in
    omega arith

-- the machine of a slave after the first datagram

pub first-asked : (Asked : ℕ → Type 0) (first : Logical) (ds : List Logical) → AllAreAsked Asked (first ∷ ds) → AreAsked Asked first.from first.bytes
first-asked Asked first ds asked bit inside = asked 0 first bit (record { is = refl; below = inside })

pub rest-asked : (Asked : ℕ → Type 0) (first : Logical) (ds : List Logical) → AllAreAsked Asked (first ∷ ds) → AllAreAsked Asked ds
rest-asked Asked first ds asked n d bit has = asked (suc n) d bit (record { is = has.is; below = has.below })

after_it-first : (Asked : ℕ → Type 0) (state : State) (machines : List (List ℕ)) (k : ℕ) (member : Member) (memory : List ℕ) (d : Logical) → MeetsCarrying Asked state machines k member memory
    → slice_get (memories_after machines d.from d.bytes) k ≡ Some (get_or (memories_after machines d.from d.bytes) k memory)
after_it-first Asked state machines k member memory d meets =
    let within = slice_get_within machines k memory meets.memory_is in
    slice_get-get_or (memories_after machines d.from d.bytes) k memory (omega (arith, within, length-after_it machines d.from d.bytes))

meets-next : (Asked : ℕ → Type 0) (state : State) (machines : List (List ℕ)) (k : ℕ) (member : Member) (memory : List ℕ) (d : Logical) → AreAsked Asked d.from d.bytes
    → MeetsCarrying Asked state machines k member memory
    → MeetsCarrying Asked state (memories_after machines d.from d.bytes) k member (get_or (memories_after machines d.from d.bytes) k memory)
meets-next Asked state machines k member memory d asked meets = record {
  configurable = meets.configurable;
  carrying = (carrying-stays Asked state machines d.bytes d.from meets.configurable meets.carrying asked).carrying;
  member_is = meets.member_is;
  memory_is = after_it-first Asked state machines k member memory d meets;
}

pub asked-all-inputs : (Asked : ℕ → Type 0) (state : State) → AllAskedInputsAreBroughtBack Asked state
asked-all-inputs Asked state machines k member memory [] n d bit m came meets asked has input is = let none = has.is in cc
asked-all-inputs Asked state machines k member memory (first ∷ ds) zero d bit m came meets asked has input is =
    let at : Some first ≡ Some d = has.is in
    let one : first ≡ d = cc in
    let same : data_through machines first.from first.bytes ≡ came = cc in
    ap (λ (xs : List ℕ). bit_of xs bit) (sym same) ∙ ap (λ (x : Logical). bit_of (data_through machines x.from x.bytes) bit) one
    ∙ asked-inputs Asked state machines k member memory d.bytes d.from bit m meets (subst (λ (x : Logical). AreAsked Asked x.from x.bytes) one (first-asked Asked first ds asked)) has.below input
asked-all-inputs Asked state machines k member memory (first ∷ ds) (suc n) d bit m came meets asked has input is =
    let members = line state in
    let stays = stays-line state meets.configurable in
    let now = first-asked Asked first ds asked in
    let memory1 = get_or (memories_after machines first.from first.bytes) k memory in
    asked-all-inputs Asked state (memories_after machines first.from first.bytes) k member memory1 ds n d bit m came (meets-next Asked state machines k member memory first now meets)
    (rest-asked Asked first ds asked) (record { is = has.is; below = has.below }) input is
    ∙ asked-memory Asked state machines k member memory memory1 first.bytes first.from m meets now (after_it-first Asked state machines k member memory first meets)
    (bit-inside members member.slave.station (d.from + bit) m stays input.areas)
    (λ l inside output. no-two-uses members member.slave.station (d.from + bit) (first.from + l) m stays input output)

pub asked-all-memory : (Asked : ℕ → Type 0) (state : State) → MemoryBesideAllAskedStays Asked state
asked-all-memory Asked state machines k member memory memory' [] m meets asked low none is =
    let equal : Some memory ≡ Some memory' = sym meets.memory_is ∙ is in
    let same : memory ≡ memory' = cc in
    ap (λ (xs : List ℕ). bit_of xs m) (sym same)
asked-all-memory Asked state machines k member memory memory' (first ∷ ds) m meets asked low none is =
    let now = first-asked Asked first ds asked in
    let memory1 = get_or (memories_after machines first.from first.bytes) k memory in
    asked-all-memory Asked state (memories_after machines first.from first.bytes) k member memory1 memory' ds m (meets-next Asked state machines k member memory first now meets)
    (rest-asked Asked first ds asked) low
    (λ n d bit has. none (suc n) d bit (record { is = has.is; below = has.below })) is
    ∙ asked-memory Asked state machines k member memory memory1 first.bytes first.from m meets now (after_it-first Asked state machines k member memory first meets) low
    (λ bit inside. none 0 first bit (record { is = refl; below = inside }))

pub asked-all-outputs : (Asked : ℕ → Type 0) (state : State) → AllAskedOutputsArrive Asked state
asked-all-outputs Asked state machines k member memory memory' [] n d bit m meets asked apart has output is = let none = has.is in cc
asked-all-outputs Asked state machines k member memory memory' (first ∷ ds) zero d bit m meets asked apart has output is =
    let members = line state in
    let stays = stays-line state meets.configurable in
    let now = first-asked Asked first ds asked in
    let at : Some first ≡ Some d = has.is in
    let one : d ≡ first = cc in
    let below : bit < 8 * length first.bytes = subst (λ (x : Logical). bit < 8 * length x.bytes) one has.below in
    let own : LinePairsIn members Out member.slave.station (first.from + bit) m = subst (λ (x : Logical). LinePairsIn members Out member.slave.station (x.from + bit) m) one output in
    let memory1 = get_or (memories_after machines first.from first.bytes) k memory in
    asked-all-memory Asked state (memories_after machines first.from first.bytes) k member memory1 memory' ds m (meets-next Asked state machines k member memory first now meets)
    (rest-asked Asked first ds asked) (bit-inside members member.slave.station (first.from + bit) m stays own.areas)
    (λ i e l within other.
    let later : Contains ds e = (i, slice_get_within ds i e within.is, get_or_from_slice_get ds i e e within.is) in
    let away = All-contains (LogicalsAreApart first) ds e (AllPairs-head LogicalsAreApart first ds apart) later in
    away bit l below within.below (same-pair members member.slave.station (first.from + bit) (e.from + l) m stays own.areas other.areas).logical)
    is
    ∙ asked-outputs Asked state machines k member memory memory1 first.bytes first.from bit m meets now (after_it-first Asked state machines k member memory first meets) below own
    ∙ ap (λ (x : Logical). bit_of x.bytes bit) (sym one)
asked-all-outputs Asked state machines k member memory memory' (first ∷ ds) (suc n) d bit m meets asked apart has output is =
    let memory1 = get_or (memories_after machines first.from first.bytes) k memory in
    asked-all-outputs Asked state (memories_after machines first.from first.bytes) k member memory1 memory' ds n d bit m
    (meets-next Asked state machines k member memory first (first-asked Asked first ds asked) meets)
    (rest-asked Asked first ds asked) (AllPairs-tail LogicalsAreApart first ds apart) (record { is = has.is; below = has.below }) output is

pub asked-all-keep : (Asked : ℕ → Type 0) (state : State) → SequencesKeepCarrying Asked state
asked-all-keep Asked state machines [] can asked are = are
asked-all-keep Asked state machines (d ∷ ds) can asked are =
    asked-all-keep Asked state (memories_after machines d.from d.bytes) ds can (rest-asked Asked d ds asked) (carrying-stays Asked state machines d.bytes d.from can are (first-asked Asked d ds asked)).carrying

-- the laws of programmed lines

pub all-inputs : AllInputsAreBroughtBack
all-inputs state machines k member memory ds n d bit m came meets has input is =
    asked-all-inputs AnyBit state machines k member memory ds n d bit m came (meets-any state machines k member memory meets) (λ i e b inside. tt) has input is

pub all-others : AllOtherMemoryStays
all-others state machines k member memory memory' ds m meets low none is =
    asked-all-memory AnyBit state machines k member memory memory' ds m (meets-any state machines k member memory meets) (λ i e b inside. tt) low none is

pub all-outputs : AllOutputsArrive
all-outputs state machines k member memory memory' ds n d bit m meets apart has output is =
    asked-all-outputs AnyBit state machines k member memory memory' ds n d bit m (meets-any state machines k member memory meets) (λ i e b inside. tt) apart has output is

pub all-keep : SequencesKeepTheLine
all-keep state machines [] can are = are
all-keep state machines (d ∷ ds) can are = all-keep state (memories_after machines d.from d.bytes) ds can (line-stays state machines d.bytes d.from can are).programmed
