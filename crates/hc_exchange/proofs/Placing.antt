-- Where the bits of a line are: the area, and the datagram.
use Rattle.std.proofs.Common.{◌≡◌, ℕ, ◌+◌, ◌*◌, ◌<◌, ◌≤◌, ◌∙◌, inl, inr, refl, sym, ap, ap₂, subst, arith, List}
use Rattle.std.specs.Prelude.{Contains, Some, slice_get}
use Rattle.std.proofs.lemmas.List.Elements.{All-contains}
use Rattle.hc_records.specs.declared.records.Area.{Area}
use Rattle.hc_records.specs.declared.records.Dir.TheVariants.{Out}
use Rattle.hc_records.specs.AddressLaws.{LineHasDatagram}
use Rattle.hc_records.specs.Area.{assigned_entries, entry_bits, width}
use Rattle.hc_records.specs.Image.{datagram_count, datagram_length, logical_address, task_places, variables_from}
use Rattle.hc_records.specs.Line.{Member, State, line}
use Rattle.hc_records.specs.Packing.{Placed}
use Rattle.hc_records.proofs.lemmas.Greatest.{greatest-all}
use Rattle.hc_records.proofs.lemmas.Parts.{EndsInDatagram, ends-in-datagram}
use Rattle.hc_records.proofs.lemmas.Variables.{IsEntryVariable, entry-variables}
use Rattle.hc_registers.specs.declared.fmmu.Mapping.{Mapping}
use Rattle.hc_registers.specs.Blocks.{mapping_at, mapping_of}
use Rattle.hc_exchange.specs.PairLaws.{IsConfigurable}
use Rattle.hc_exchange.specs.Pairs.{LinePairs, member_area_key}
use Rattle.hc_exchange.proofs.lemmas.Listed.{areas-mapped}
use Rattle.hc_exchange.proofs.lemmas.Members.{KeepsLine, area-inside, stays-line, one-index, one-station}
use Rattle.hc_exchange.proofs.lemmas.Places.{logical-answer_given, mapped-place}
use Rattle.hc_exchange.specs.Carrying.{LinePairsIn, IsBitOfTask}
use Rattle.hc_exchange.proofs.lemmas.Slaves.{one-owner}
use Rattle.hc_exchange.specs.Exchanged.{IsGapBit, IsOutputBit}
use Rattle.hc_exchange.proofs.Packing.{datagram-early, length-there}

-- a logical bit has one area of one slave, and one bit of it

record SameBit (line : List Member) (station other x m n : ℕ) (p : LinePairs line station x m) (q : LinePairs line other x n) : Type 0 where
  member : p.member ≡ q.member
  memory : m ≡ n

bits-same : (first k l x : ℕ) → x ≡ first + k → x ≡ first + l → k ≡ l
bits-same first k l x is is' = omega arith

same-bit : (line : List Member) (station other x m n : ℕ) → KeepsLine line → (p : LinePairs line station x m) → (q : LinePairs line other x n) → SameBit line station other x m n p q
same-bit line station other x m n stays p q =
    let owner = one-owner line station other x m n stays p q in
    let one = owner.0 in
    let area = owner.2 in
    let keys : mapping_of line p.area.task (member_area_key p.member p.index p.area) ≡ mapping_of line q.area.task (member_area_key q.member q.index q.area) =
    ap (λ (a : Area). mapping_of line a.task (member_area_key p.member p.index a)) area ∙ ap₂ (λ (slave : Member) (i : ℕ). mapping_of line q.area.task (member_area_key slave i q.area)) one owner.1 in
    let mappings : Some p.mapping ≡ Some q.mapping = sym p.is_mapped.mapped ∙ keys ∙ q.is_mapped.mapped in
    let mapping : p.mapping ≡ q.mapping = cc in
    let first : 8 * p.mapping.address + p.mapping.bit ≡ 8 * q.mapping.address + q.mapping.bit = ap (λ (at : Mapping). 8 * at.address + at.bit) mapping in
    let bit : p.pair.k ≡ q.pair.k = bits-same (8 * q.mapping.address + q.mapping.bit) p.pair.k q.pair.k x (p.pair.logical ∙ ap (λ (i : ℕ). i + p.pair.k) first) q.pair.logical in
    record {
      member = one;
      memory = p.pair.memory ∙ ap₂ (λ (a : Area) (i : ℕ). 8 * a.phys + i) area bit ∙ sym q.pair.memory;
    }

-- an area's bit is in a datagram of the area's task

pub in-datagram : (line : List Member) (station x m : ℕ) → KeepsLine line → (p : LinePairs line station x m) → IsBitOfTask line p.area.task x
in-datagram line station x m stays p =
    let is = p.is_mapped in
    let place = mapped-place line p.member p.index p.area p.mapping stays is.in_line is.in_record is.mapped in
    let q = place.placed in
    let places = task_places p.area.task line in
    let ends : q.bit + q.bits ≤ 8 * datagram_length places q.datagram = All-contains (EndsInDatagram places) places q (ends-in-datagram places) place.in_task in
    let after_it : q.datagram + 1 ≤ datagram_count places =
    All-contains (λ (placed : Placed). placed.datagram + 1 ≤ datagram_count places) places q (greatest-all (λ (placed : Placed). placed.datagram + 1) 0 places) place.in_task in
    let logical : x ≡ 8 * logical_address p.area.task q.datagram + q.bit + p.pair.k =
    subst (λ (at : Mapping). x ≡ 8 * at.address + at.bit + p.pair.k) (sym place.is) p.pair.logical in
    record {
      datagram = q.datagram;
      bit = q.bit + p.pair.k;
      there = record { in_task = (area-inside line p.member p.index p.area stays is.in_line is.in_record).task; counted = omega arith };
      below = omega (arith, ends, place.bits, p.pair.below);
      at = omega (arith, logical);
    }

-- and a bit of a task's datagram is an area's of this task
pub task-answer_given : (state : State) (task d bit station m : ℕ) → IsConfigurable state → LineHasDatagram (line state) task d → bit < 8 * datagram_length (task_places task (line state)) d
    → (p : LinePairs (line state) station (8 * logical_address task d + bit) m) → p.area.task ≡ task
task-answer_given state task d bit station m can is low p =
    let members = line state in
    let stays = stays-line state can in
    let own = p.is_mapped in
    let place = mapped-place members p.member p.index p.area p.mapping stays own.in_line own.in_record own.mapped in
    let q = place.placed in
    let most = (length-there state task d can is).most in
    let short : 0 + 11888 ≤ 11888 = omega arith in
    let few : bit < 11888 = omega (arith, low, most) in
    let few' : p.pair.k < q.bits = omega (arith, p.pair.below, place.bits) in
    let logical : 8 * logical_address task d + bit ≡ 8 * (16777216 * (p.area.task + 1) + 2048 * q.datagram) + q.bit + p.pair.k =
    subst (λ (mapping : Mapping). 8 * logical_address task d + bit ≡ 8 * mapping.address + mapping.bit + p.pair.k) (sym place.is) p.pair.logical in
    sym (logical-answer_given task d 0 11888 bit p.area.task q.datagram q.bit q.bits p.pair.k (datagram-early state task d can is) place.good.early short place.good.inside few few'
    (first-bit (8 * logical_address task d) bit _ logical)).0
  where
    first-bit : (a bit b : ℕ) → a + bit ≡ b → a + 0 + bit ≡ b
    first-bit a bit b same = omega arith

-- an output area's bit is carried

pub record HasPair (line : List Member) (task : ℕ) (member : Member) (m : ℕ) : Type 0 where
  pub x : ℕ
  pub carries : LinePairsIn line Out member.slave.station x m
  pub in_task : carries.areas.area.task ≡ task
  pub own : carries.areas.member ≡ member

pub has-pair : (state : State) (task : ℕ) (member : Member) (area : Area) (m k : ℕ) → IsConfigurable state → Contains (line state) member → IsOutputBit task member area m k
    → HasPair (line state) task member m
has-pair state task member area m k can has b =
    elim (areas-mapped state member b.index area can has b.in_record) [
      | inr none ↦ let empty = none.0 in let below = b.below in absurd (omega arith)
      | inl mapped ↦
          let in_place = mapped.1 in
          let q = in_place.placed in
          let mapping = mapping_at area.task q in
          record {
            x = 8 * mapping.address + mapping.bit + k;
            carries = record {
              areas = record {
                member = member;
                index = b.index;
                area = area;
                mapping = mapping;
                station_is = refl;
                is_mapped = record { in_line = has; in_record = b.in_record; mapped = in_place.mapped };
                pair = record { k = k; below = b.below; logical = refl; memory = b.at };
              };
              direction = b.output;
            };
            in_task = b.in_task;
            own = refl;
          }
    ]

-- no variable that is at a gap's logical bit

entry-inside : (area : Area) (variable offset bits : ℕ) → Contains (variables_from 0 (assigned_entries area)) (variable, (offset, bits)) → offset + bits ≤ width area
entry-inside area variable offset bits entry =
    let entries = assigned_entries area in
    let inside = All-contains (IsEntryVariable (λ n. n ≡ n) 0 (0 + entry_bits entries)) (variables_from 0 entries) (variable, (offset, bits)) (entry-variables (λ n. n ≡ n) 0 entries (λ k d within. refl)) entry in
    let to = inside.to in
    omega arith

pub gap-free : (line : List Member) (task : ℕ) (member : Member) (area : Area) (m k x n j variable bits : ℕ) → KeepsLine line → Contains line member → IsOutputBit task member area m k
    → (p : LinePairs line member.slave.station x m) → IsGapBit area k
    → (carrier : Member) → (index : ℕ) → (own : Area) → (offset : ℕ) → Contains line carrier → slice_get carrier.slave.areas index ≡ Some own
    → Contains (variables_from 0 (assigned_entries own)) (variable, (offset, bits)) → j < bits → n ≡ 8 * own.phys + (offset + j) → (q : LinePairs line carrier.slave.station x n) → ⊥
gap-free line task member area m k x n j variable bits stays has b p gap carrier index own offset in_line in_record entry low at q =
    let same = same-bit line member.slave.station carrier.slave.station x m n stays p q in
    let mine = one-station line p.member member stays p.is_mapped.in_line has p.station_is in
    let its = one-station line q.member carrier stays q.is_mapped.in_line in_line q.station_is in
    let one : carrier ≡ member = sym its ∙ sym same.member ∙ mine in
    let history_is : slice_get member.slave.areas index ≡ Some own = subst (λ (slave : Member). slice_get slave.slave.areas index ≡ Some own) one in_record in
    let ends = entry-inside own variable offset bits entry in
    let below : offset + j < width own = omega arith in
    let memory : m ≡ 8 * own.phys + (offset + j) = same.memory ∙ at in
    let index_is : b.index ≡ index = one-index line member b.index index area own m k (offset + j) stays has b.in_record history_is b.below b.at below memory in
    let areas : Some area ≡ Some own = sym b.in_record ∙ ap (λ (i : ℕ). slice_get member.slave.areas i) index_is ∙ history_is in
    let area_is : own ≡ area = cc in
    let phys : 8 * own.phys ≡ 8 * area.phys = ap (λ (a : Area). 8 * a.phys) area_is in
    let bit : k ≡ offset + j = omega (arith, memory, b.at, phys) in
    gap variable offset bits (subst (λ (a : Area). Contains (variables_from 0 (assigned_entries a)) (variable, (offset, bits))) area_is entry) (omega arith) (omega arith)
