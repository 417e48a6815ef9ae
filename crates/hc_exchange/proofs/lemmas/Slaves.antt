-- What a slave makes of a logical datagram if it carries each of the bits.
use Rattle.std.proofs.Common.{◌≡◌, ℕ, ◌+◌, ◌*◌, ◌<◌, ◌≤◌, ◌∙◌, inr, Bool, true, List, length, get_or, refl, sym, ap, ap₂, subst, arith}
use Rattle.std.specs.Prelude.{Contains, Some, slice_get}
use Rattle.hc_places.proofs.lemmas.DatagramUses.{dir-in}
use Rattle.hc_bits.specs.Bits.{bit_of}
use Rattle.hc_records.specs.declared.records.Area.{Area}
use Rattle.hc_records.specs.declared.records.Dir.{Dir}
use Rattle.hc_records.specs.declared.records.Dir.TheVariants.{Out, In}
use Rattle.hc_records.specs.Keys.{same_dir}
use Rattle.hc_records.specs.Line.{Member}
use Rattle.hc_registers.specs.Blocks.{mapped_bytes}
use Rattle.hc_machine.specs.Fmmus.{fmmu_block_at, is_read, is_write_fmmu}
use Rattle.hc_machine.specs.Laws.{IsPair, Reads, FmmuWrites}
use Rattle.hc_machine.specs.Logical.{logical_data, logical_memory}
use Rattle.hc_machine.proofs.lemmas.Logical.{read-from-memory, unread-stays, unwritten-stays, written-from-data}
use Rattle.hc_plan.proofs.lemmas.AreaKeys.{one-rank}
use Rattle.hc_exchange.specs.Pairs.{LinePairs}
use Rattle.hc_exchange.proofs.lemmas.Decoded.{block-way}
use Rattle.hc_exchange.proofs.lemmas.Unchanged.{programmed-unchanged}
use Rattle.hc_exchange.proofs.lemmas.Members.{KeepsLine, area-inside, one-index}
use Rattle.hc_exchange.proofs.lemmas.Places.{mapped-place, one-area}
use Rattle.hc_exchange.proofs.lemmas.Asked.{asked-area, asked-fmmu, carrying-unchanged, programmed-carries}
use Rattle.hc_exchange.proofs.lemmas.Programmed.{SlaveFmmu}
use Rattle.hc_exchange.proofs.lemmas.Sources.{mapped-area}
use Rattle.hc_exchange.specs.Carrying.{AreAsked, CarriesAsked, LinePairsIn, IsProgrammedMachine}
use Rattle.hc_machine.proofs.lemmas.Memories.{length-memory, memory-bytes, same-byte}

-- a logical bit has one area of one slave

pub one-owner : (line : List Member) (station other x m n : ℕ) → KeepsLine line → (p : LinePairs line station x m) → (q : LinePairs line other x n)
    → (p.member ≡ q.member) × (p.index ≡ q.index) × (p.area ≡ q.area)
one-owner line station other x m n stays p q =
    let is = p.is_mapped in
    let is' = q.is_mapped in
    let same =
    one-area line p.member q.member p.index q.index p.area q.area p.mapping q.mapping x p.pair.k q.pair.k
    (mapped-place line p.member p.index p.area p.mapping stays is.in_line is.in_record is.mapped) (mapped-place line q.member q.index q.area q.mapping stays is'.in_line is'.in_record is'.mapped)
    p.pair.below p.pair.logical q.pair.below q.pair.logical in
    let one : p.member ≡ q.member = one-rank line p.member q.member stays.ranks is.in_line is'.in_line same.0 in
    let areas : Some p.area ≡ Some q.area = sym is.in_record ∙ ap₂ (λ (slave : Member) (n : ℕ). slice_get slave.slave.areas n) one same.1 ∙ is'.in_record in
    (one, same.1, cc)

-- and so one direction
pub one-carrier : (line : List Member) (station other x m n : ℕ) → KeepsLine line → (p : LinePairs line station x m) → (q : LinePairs line other x n)
    → (station ≡ other) × (p.area.dir ≡ q.area.dir)
one-carrier line station other x m n stays p q =
    let owner = one-owner line station other x m n stays p q in
    (sym p.station_is ∙ ap (λ (slave : Member). slave.slave.station) owner.0 ∙ q.station_is, ap (λ (a : Area). a.dir) owner.2)

pub no-two-ways : (line : List Member) (station other x m n : ℕ) → KeepsLine line → LinePairsIn line Out station x m → LinePairsIn line In other x n → ⊥
no-two-ways line station other x m n stays output input =
    let same = (one-carrier line station other x m n stays output.areas input.areas).1 in
    let ways : Out ≡ In = sym output.direction ∙ same ∙ input.direction in
    cc

-- FMMUs of a slave by their areas

out-way : (dir : Dir) → same_dir dir Out ≡ true → dir ≡ Out
out-way Out is = refl
out-way In is = cc

abbrev areas-of : (line : List Member) (member : Member) (memory : List ℕ) (i x m : ℕ) → SlaveFmmu line member memory i x m → LinePairs line member.slave.station x m
areas-of line member memory i x m fmmu = record { member = member; index = i; area = fmmu.area; mapping = fmmu.mapping; station_is = refl; is_mapped = fmmu.is; pair = fmmu.pair }

pub reads-carried : {Asked : ℕ → Type 0} (line : List Member) (member : Member) (memory : List ℕ) (i x m : ℕ) → KeepsLine line → Contains line member → CarriesAsked Asked line member memory → i < 16
    → Asked x → Reads memory i x m → LinePairsIn line In member.slave.station x m
reads-carried line member memory i x m stays has carrying low asked reads =
    let fmmu = asked-fmmu line member memory i x m stays has carrying low asked reads.1 in
    record {
      areas = areas-of line member memory i x m fmmu;
      direction = dir-in fmmu.area.dir (sym (block-way fmmu.area fmmu.mapping).0 ∙ ap is_read (sym fmmu.is_placed) ∙ reads.0);
    }

pub writes-carried : {Asked : ℕ → Type 0} (line : List Member) (member : Member) (memory : List ℕ) (i x m : ℕ) → KeepsLine line → Contains line member → CarriesAsked Asked line member memory → i < 16
    → Asked x → FmmuWrites memory i x m → LinePairsIn line Out member.slave.station x m
writes-carried line member memory i x m stays has carrying low asked writes =
    let fmmu = asked-fmmu line member memory i x m stays has carrying low asked writes.1 in
    record {
      areas = areas-of line member memory i x m fmmu;
      direction = out-way fmmu.area.dir (sym (block-way fmmu.area fmmu.mapping).1 ∙ ap is_write_fmmu (sym fmmu.is_placed) ∙ writes.0);
    }

-- an area's FMMU reads or writes its pairs

pub record Serves (memory : List ℕ) (x m : ℕ) (way : List ℕ → Bool) : Type 0 where
  pub fmmu : ℕ
  pub below : fmmu < 16
  pub turned : way (fmmu_block_at memory fmmu) ≡ true
  pub pair : IsPair (fmmu_block_at memory fmmu) x m

serves : {Asked : ℕ → Type 0} (line : List Member) (member : Member) (memory : List ℕ) (x m : ℕ) (way : List ℕ → Bool) → KeepsLine line → Contains line member → CarriesAsked Asked line member memory
    → Asked x → (pairs : LinePairs line member.slave.station x m) → way (mapped_bytes pairs.area pairs.mapping) ≡ true → Serves memory x m way
serves line member memory x m way stays has carrying asked pairs turned =
    let answer_given = asked-area line member memory x m stays has carrying asked pairs in
    record {
      fmmu = pairs.index;
      below = answer_given.below;
      turned = ap way answer_given.is_placed ∙ turned;
      pair = subst (λ (block : List ℕ). IsPair block x m) (sym answer_given.is_placed) (mapped-area line pairs.member pairs.index pairs.area pairs.mapping x m stays pairs.is_mapped pairs.pair);
    }

pub carried-reads : {Asked : ℕ → Type 0} (line : List Member) (member : Member) (memory : List ℕ) (x m : ℕ) → KeepsLine line → Contains line member → CarriesAsked Asked line member memory
    → Asked x → LinePairsIn line In member.slave.station x m → Serves memory x m is_read
carried-reads line member memory x m stays has carrying asked input =
    let pairs = input.areas in
    serves line member memory x m is_read stays has carrying asked pairs ((block-way pairs.area pairs.mapping).0 ∙ ap (λ (dir : Dir). same_dir dir In) input.direction)

pub carried-writes : {Asked : ℕ → Type 0} (line : List Member) (member : Member) (memory : List ℕ) (x m : ℕ) → KeepsLine line → Contains line member → CarriesAsked Asked line member memory
    → Asked x → LinePairsIn line Out member.slave.station x m → Serves memory x m is_write_fmmu
carried-writes line member memory x m stays has carrying asked output =
    let pairs = output.areas in
    serves line member memory x m is_write_fmmu stays has carrying asked pairs ((block-way pairs.area pairs.mapping).1 ∙ ap (λ (dir : Dir). same_dir dir Out) output.direction)

-- of a slave's FMMUs one alone pairs a logical bit, and one alone a memory bit

one-reader : {Asked : ℕ → Type 0} (line : List Member) (member : Member) (memory : List ℕ) (i j x m n : ℕ) → KeepsLine line → Contains line member → CarriesAsked Asked line member memory → i < 16
    → j < 16 → Asked x → IsPair (fmmu_block_at memory i) x m → IsPair (fmmu_block_at memory j) x n → i ≡ j
one-reader line member memory i j x m n stays has carrying low low' asked pair pair' =
    let p = asked-fmmu line member memory i x m stays has carrying low asked pair in
    let q = asked-fmmu line member memory j x n stays has carrying low' asked pair' in
    (one-area line member member i j p.area q.area p.mapping q.mapping x p.pair.k q.pair.k (mapped-place line member i p.area p.mapping stays has p.is.in_record p.is.mapped)
    (mapped-place line member j q.area q.mapping stays has q.is.in_record q.is.mapped) p.pair.below p.pair.logical q.pair.below q.pair.logical).1

one-writer : {Asked : ℕ → Type 0} (line : List Member) (member : Member) (memory : List ℕ) (i j x y m : ℕ) → KeepsLine line → Contains line member → CarriesAsked Asked line member memory → i < 16
    → j < 16 → Asked x → Asked y → IsPair (fmmu_block_at memory i) x m → IsPair (fmmu_block_at memory j) y m → i ≡ j
one-writer line member memory i j x y m stays has carrying low low' asked asked' pair pair' =
    let p = asked-fmmu line member memory i x m stays has carrying low asked pair in
    let q = asked-fmmu line member memory j y m stays has carrying low' asked' pair' in
    one-index line member i j p.area q.area m p.pair.k q.pair.k stays has p.is.in_record q.is.in_record p.pair.below p.pair.memory q.pair.below q.pair.memory

-- so each bit of the data, and each of memory, is given by the areas

pub bit-brought : {Asked : ℕ → Type 0} (line : List Member) (member : Member) (memory bytes : List ℕ) (from bit m : ℕ) → KeepsLine line → Contains line member → CarriesAsked Asked line member memory
    → AreAsked Asked from bytes → bit < 8 * length bytes → LinePairsIn line In member.slave.station (from + bit) m → bit_of (logical_data memory from bytes) bit ≡ bit_of memory m
bit-brought line member memory bytes from bit m stays has carrying asked low input =
    let reader = carried-reads line member memory (from + bit) m stays has carrying (asked bit low) input in
    let below = reader.below in
    read-from-memory memory bytes from bit reader.fmmu m low reader.below (reader.turned, reader.pair)
    (λ j n lower reads.
    let same = one-reader line member memory reader.fmmu j (from + bit) m n stays has carrying reader.below (omega arith) (asked bit low) reader.pair reads.1 in
    omega arith)

pub bit-left : {Asked : ℕ → Type 0} (line : List Member) (member : Member) (memory bytes : List ℕ) (from bit : ℕ) → KeepsLine line → Contains line member → CarriesAsked Asked line member memory
    → AreAsked Asked from bytes → bit < 8 * length bytes → ((m : ℕ) → ¬ (LinePairsIn line In member.slave.station (from + bit) m))
    → bit_of (logical_data memory from bytes) bit ≡ bit_of bytes bit
bit-left line member memory bytes from bit stays has carrying asked low none =
    unread-stays memory bytes from bit low (λ j n below reads. none n (reads-carried line member memory j (from + bit) n stays has carrying below (asked bit low) reads))

-- the memory of an area is process memory
pub output-high : (line : List Member) (station x m : ℕ) → KeepsLine line → (pairs : LinePairs line station x m) → 32768 ≤ m
output-high line station x m stays pairs =
    let is = pairs.is_mapped in
    let start : 4096 ≤ pairs.area.phys = (area-inside line pairs.member pairs.index pairs.area stays is.in_line is.in_record).start in
    let memory = pairs.pair.memory in
    omega arith

pub bit-arrived : {Asked : ℕ → Type 0} (line : List Member) (member : Member) (memory bytes : List ℕ) (from bit m : ℕ) → KeepsLine line → Contains line member → CarriesAsked Asked line member memory
    → AreAsked Asked from bytes → bit < 8 * length bytes → LinePairsIn line Out member.slave.station (from + bit) m → bit_of (logical_memory memory from bytes) m ≡ bit_of bytes bit
bit-arrived line member memory bytes from bit m stays has carrying asked low output =
    let writer = carried-writes line member memory (from + bit) m stays has carrying (asked bit low) output in
    let high = output-high line member.slave.station (from + bit) m stays output.areas in
    let below = writer.below in
    written-from-data memory bytes from bit writer.fmmu m carrying.size (inr (omega arith)) low writer.below (writer.turned, writer.pair)
    (λ j n lower inside writes.
    let same = one-writer line member memory writer.fmmu j (from + bit) (from + n) m stays has carrying writer.below (omega arith) (asked bit low) (asked n inside) writer.pair writes.1 in
    omega arith)

pub bit-unchanged : {Asked : ℕ → Type 0} (line : List Member) (member : Member) (memory bytes : List ℕ) (from m : ℕ) → KeepsLine line → Contains line member → CarriesAsked Asked line member memory
    → AreAsked Asked from bytes → m < 98304
    → ((bit : ℕ) → bit < 8 * length bytes → ¬ (LinePairsIn line Out member.slave.station (from + bit) m)) → bit_of (logical_memory memory from bytes) m ≡ bit_of memory m
bit-unchanged line member memory bytes from m stays has carrying asked low none =
    unwritten-stays memory bytes from m carrying.size low
    (λ j n below inside writes. none n inside (writes-carried line member memory j (from + n) m stays has carrying below (asked n inside) writes))

-- and the registers stay

pub registers-stay : {Asked : ℕ → Type 0} (line : List Member) (member : Member) (memory bytes : List ℕ) (from r : ℕ) → KeepsLine line → Contains line member → CarriesAsked Asked line member memory
    → AreAsked Asked from bytes → r < 4096 → get_or (logical_memory memory from bytes) r 0 ≡ get_or memory r 0
registers-stay line member memory bytes from r stays has carrying asked low =
    let long = carrying.size in
    let memory' = logical_memory memory from bytes in
    let long' : length memory' ≡ 12288 = length-memory memory bytes from ∙ long in
    let all_bytes = memory-bytes memory bytes from long carrying.all_bytes in
    same-byte memory' memory r (all_bytes r (omega arith)) (carrying.all_bytes r (omega arith))
    (λ j below.
    bit-unchanged line member memory bytes from (8 * r + j) stays has carrying asked (omega arith)
    (λ bit inside output.
    let high = output-high line member.slave.station (from + bit) (8 * r + j) stays output.areas in
    omega arith))

pub stays-carrying : {Asked : ℕ → Type 0} (line : List Member) (member : Member) (memory bytes : List ℕ) (from : ℕ) → KeepsLine line → Contains line member → CarriesAsked Asked line member memory
    → AreAsked Asked from bytes → CarriesAsked Asked line member (logical_memory memory from bytes)
stays-carrying line member memory bytes from stays has carrying asked =
    let long = carrying.size in
    carrying-unchanged line member memory (logical_memory memory from bytes) stays has carrying (length-memory memory bytes from ∙ long) (memory-bytes memory bytes from long carrying.all_bytes)
    (λ r low. registers-stay line member memory bytes from r stays has carrying asked low)

pub stays-programmed : (line : List Member) (member : Member) (memory bytes : List ℕ) (from : ℕ) → KeepsLine line → Contains line member → IsProgrammedMachine line member memory
    → IsProgrammedMachine line member (logical_memory memory from bytes)
stays-programmed line member memory bytes from stays has ready =
    let long = ready.programmed.machine.size in
    let carrying = programmed-carries {Asked = λ x. Unit {0}} line member memory stays has ready in
    record {
      programmed = programmed-unchanged line member memory (logical_memory memory from bytes) stays has ready.programmed (length-memory memory bytes from ∙ long)
          (λ r low. registers-stay line member memory bytes from r stays has carrying (λ bit inside. tt) low);
      all_bytes = memory-bytes memory bytes from long ready.all_bytes;
    }
