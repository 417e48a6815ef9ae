-- The FMMUs of a slave that carries the logical bits asked about.
use Rattle.std.proofs.Common.{◌≡◌, true, ℕ, ◌+◌, ◌*◌, ◌<◌, ◌∙◌, List, length, get_or, refl, sym, ap, subst, arith}
use Rattle.std.specs.Prelude.{Contains, Some, slice_get}
use Rattle.std.proofs.lemmas.Option.{get_or_from_slice_get, slice_get_within}
use Rattle.hc_bits.specs.Bits.{AreBytes}
use Rattle.hc_records.specs.declared.records.Area.{Area}
use Rattle.hc_records.specs.Line.{Member, State, line}
use Rattle.hc_registers.specs.Blocks.{fmmu_bytes}
use Rattle.hc_machine.specs.Fmmus.{fmmu_block_at}
use Rattle.hc_machine.specs.Laws.{IsPair}
use Rattle.hc_exchange.specs.Pairs.{LinePairs, IsMapped}
use Rattle.hc_exchange.specs.Carrying.{AreCarrying, CarriesAsked, IsProgrammedMachine}
use Rattle.hc_exchange.specs.AskedLaws.{LessAskedCarries, ProgrammedLinesCarry}
use Rattle.hc_exchange.proofs.lemmas.Members.{KeepsLine, one-station, slave-of, stays-line}
use Rattle.hc_exchange.proofs.lemmas.Programmed.{AreaIsThere, SlaveFmmu, area-is_placed, slave-fmmu}
use Rattle.hc_exchange.proofs.lemmas.Sources.{area-pair}
use Rattle.hc_exchange.proofs.lemmas.Unchanged.{same-range}

-- the FMMU that pairs such a bit is the area's of its number
pub asked-fmmu : {Asked : ℕ → Type 0} (line : List Member) (member : Member) (memory : List ℕ) (i x m : ℕ) → KeepsLine line → Contains line member → CarriesAsked Asked line member memory → i < 16
    → Asked x → IsPair (fmmu_block_at memory i) x m → SlaveFmmu line member memory i x m
asked-fmmu line member memory i x m stays has carrying low asked pair =
    let own = carrying.foreign i x m low asked pair in
    let area = own.0 in
    let is = own.2 in
    let is_placed = own.3 ∙ ap (fmmu_bytes area) (sym is.mapped) in
    let answer_given = area-pair line member i area x m stays has is.in_record (subst (λ (block : List ℕ). IsPair block x m) is_placed pair) in
    record {
      area = area;
      mapping = answer_given.0;
      is = record { in_line = has; in_record = is.in_record; mapped = answer_given.1 };
      is_placed = is_placed ∙ ap (fmmu_bytes area) answer_given.1;
      pair = answer_given.2;
    }

-- an area of a slave has one of the sixteen FMMUs
pub index-low : (line : List Member) (member : Member) (i : ℕ) (area : Area) → KeepsLine line → Contains line member → slice_get member.slave.areas i ≡ Some area → i < 16
index-low line member i area stays has found =
    let few = (slave-of line member stays has).few in
    let within = slice_get_within member.slave.areas i area found in
    omega arith

-- and the area that is to carry such a bit has its block
pub asked-area : {Asked : ℕ → Type 0} (line : List Member) (member : Member) (memory : List ℕ) (x m : ℕ) → KeepsLine line → Contains line member → CarriesAsked Asked line member memory → Asked x
    → (pairs : LinePairs line member.slave.station x m) → AreaIsThere memory pairs.index pairs.area pairs.mapping
asked-area line member memory x m stays has carrying asked pairs =
    let is = pairs.is_mapped in
    let one : pairs.member ≡ member = one-station line pairs.member member stays is.in_line has pairs.station_is in
    let own : IsMapped line member pairs.index pairs.area pairs.mapping = subst (λ (slave : Member). IsMapped line slave pairs.index pairs.area pairs.mapping) one is in
    record { below = index-low line pairs.member pairs.index pairs.area stays is.in_line is.in_record; is_placed = carrying.own pairs.index x m pairs.area pairs.mapping asked own pairs.pair }

-- a programmed slave carries any bits

pub programmed-carries : {Asked : ℕ → Type 0} (line : List Member) (member : Member) (memory : List ℕ) → KeepsLine line → Contains line member → IsProgrammedMachine line member memory
    → CarriesAsked Asked line member memory
programmed-carries line member memory stays has machine =
    let programmed = machine.programmed in
    record {
      size = programmed.machine.size;
      own = λ i x m area mapping asked is pair.
          (area-is_placed line member memory x m stays has programmed (record { member = member; index = i; area = area; mapping = mapping; station_is = refl; is_mapped = is; pair = pair })).is_placed;
      foreign = λ i x m low asked pair.
          let fmmu = slave-fmmu line member memory i x m stays has programmed low pair in
          (fmmu.area, fmmu.mapping, fmmu.is, fmmu.is_placed);
      all_bytes = machine.all_bytes;
    }

pub programmed-carry : (Asked : ℕ → Type 0) (state : State) → ProgrammedLinesCarry Asked state
programmed-carry Asked state machines can are = record {
  count = are.count;
  each = λ k member memory is is'.
      programmed-carries (line state) member memory (stays-line state can) (k, slice_get_within (line state) k member is, get_or_from_slice_get (line state) k member member is) (are.each k member memory is is');
}

pub fewer-carry : (Asked Fewer : ℕ → Type 0) (line : List Member) (machines : List (List ℕ)) → ((x : ℕ) → Fewer x → Asked x) → AreCarrying Asked line machines → AreCarrying Fewer line machines
fewer-carry Asked Fewer line machines choice are = record {
  count = are.count;
  each = λ k member memory is is'.
      let own = are.each k member memory is is' in
      record {
        size = own.size;
        own = λ i x m area mapping asked. own.own i x m area mapping (choice x asked);
        foreign = λ i x m low asked. own.foreign i x m low (choice x asked);
        all_bytes = own.all_bytes;
      };
}

pub less-carry : LessAskedCarries
less-carry asked less state machines choice are = fewer-carry (λ x. asked x ≡ true) (λ x. less x ≡ true) (line state) machines choice are

-- a machine that keeps its registers carries the bits as before

pub block-same : (memory memory' : List ℕ) (i : ℕ) → i < 16 → length memory ≡ 12288 → length memory' ≡ 12288 → ((r : ℕ) → r < 4096 → get_or memory' r 0 ≡ get_or memory r 0)
    → fmmu_block_at memory' i ≡ fmmu_block_at memory i
block-same memory memory' i low long long' same = same-range memory' memory (1536 + 16 * i) 16 (omega arith) (omega arith) (λ j below. same (1536 + 16 * i + j) (omega arith))

pub carrying-unchanged : {Asked : ℕ → Type 0} (line : List Member) (member : Member) (memory memory' : List ℕ) → KeepsLine line → Contains line member → CarriesAsked Asked line member memory
    → length memory' ≡ 12288 → AreBytes memory' → ((r : ℕ) → r < 4096 → get_or memory' r 0 ≡ get_or memory r 0) → CarriesAsked Asked line member memory'
carrying-unchanged line member memory memory' stays has carrying long all_bytes same = record {
  size = long;
  own = λ i x m area mapping asked is pair.
      block-same memory memory' i (index-low line member i area stays has is.in_record) carrying.size long same ∙ carrying.own i x m area mapping asked is pair;
  foreign = λ i x m low asked pair.
      let unchanged = block-same memory memory' i low carrying.size long same in
      let own = carrying.foreign i x m low asked (subst (λ (block : List ℕ). IsPair block x m) unchanged pair) in
      (own.0, own.1, own.2, unchanged ∙ own.3);
  all_bytes = all_bytes;
}
