-- Which slave and area a block of the line is of.
use Rattle.std.proofs.Common.{◌≡◌, ℕ, ◌+◌, ◌-◌, ◌*◌, ◌<◌, ◌≤◌, ◌⊎◌, ◌∙◌, inl, inr, List, [], ◌∷◌, refl, sym, ap, subst, arith}
use Rattle.std.specs.Prelude.{All, Contains, None, Option, Some, slice_get, slice_index_or}
use Rattle.std.specs.List.{enumerate_from}
use Rattle.std.proofs.lemmas.Option.{slice_get-get_or, slice_get_within}
use Rattle.std.proofs.lemmas.List.Elements.{All-cons, All-contains, All-map, All-nil, All-weaker, Contains-get_or}
use Rattle.hc_records.specs.declared.records.Area.{Area}
use Rattle.hc_records.specs.Line.{Member, line}
use Rattle.hc_records.proofs.lemmas.Lists.{All-enumerate_from, All-flat_map}
use Rattle.hc_records.proofs.lemmas.Choices.{contains-first, contains-later}
use Rattle.hc_registers.specs.declared.fmmu.Mapping.{Mapping}
use Rattle.hc_registers.specs.Blocks.{IsMappable, LineBlock, RegisterBlock, area_blocks, fmmu_block, fmmu_bytes, line_blocks, mapped_bytes, mapping_of, member_blocks, slave_blocks, sync_manager_block}
use Rattle.hc_machine.specs.Laws.{IsPair}
use Rattle.hc_exchange.specs.PairLaws.{LinesPairTheirAreas}
use Rattle.hc_exchange.specs.Pairs.{LinePairs, LineBlockPairs, IsAreaPair, IsBlockPair, IsMapped, LiesInMemory, member_area_key}
use Rattle.hc_exchange.proofs.lemmas.Decoded.{block-pairs, block-unmapped}
use Rattle.hc_plan.proofs.lemmas.Elements.{contains-joined, contains-mapped, contains-numbered, numbered-at}
use Rattle.hc_exchange.proofs.lemmas.Members.{KeepsLine, area-in-memory, area-inside, area-width, stays-line, slave-of}
use Rattle.hc_exchange.proofs.lemmas.Places.{mapped-place, place-mappable}

-- the FMMU block of the area at an index of a slave's record
abbrev pub own_fmmu : List Member → Member → ℕ → Area → RegisterBlock
own_fmmu line member index area = fmmu_block index area (mapping_of line area.task (member_area_key member index area))

-- a block of a slave is the FMMU block of one of its areas
pub record IsAreaBlock (line : List Member) (member : Member) (block : RegisterBlock) : Type 0 where
  pub index : ℕ
  pub area : Area
  pub found : slice_get member.slave.areas index ≡ Some area
  pub is : block ≡ own_fmmu line member index area

-- or the sync manager block of one
pub record IsManagerBlock (member : Member) (block : RegisterBlock) : Type 0 where
  pub index : ℕ
  pub area : Area
  pub found : slice_get member.slave.areas index ≡ Some area
  pub is : block ≡ sync_manager_block area

abbrev pub Source : List Member → Member → RegisterBlock → Type 0
Source line member block = IsManagerBlock member block ⊎ IsAreaBlock line member block

pub slave-sources : (line : List Member) (member : Member) → All (Source line member) (slave_blocks line member)
slave-sources line member =
    let areas = member.slave.areas in
    All-flat_map (Source line member) (area_blocks line member.rank) (enumerate_from 0 areas)
    (All-weaker (λ (e : ℕ × Area). (0 ≤ e.0) × (slice_get areas (e.0 - 0) ≡ Some e.1)) (λ (e : ℕ × Area). All (Source line member) (area_blocks line member.rank e))
    (λ e answer_given. blocks-of e answer_given.1) (enumerate_from 0 areas) (numbered-at 0 areas))
  where
    blocks-of : (e : ℕ × Area) → slice_get member.slave.areas (e.0 - 0) ≡ Some e.1 → All (Source line member) (area_blocks line member.rank e)
    blocks-of e found =
        let none : e.0 ≡ e.0 - 0 = omega arith in
        let fmmu = own_fmmu line member e.0 e.1 in
        All-cons (Source line member) (sync_manager_block e.1) (fmmu ∷ []) (inl (record { index = e.0; area = e.1; found = ap (slice_get member.slave.areas) none ∙ found; is = refl }))
        (All-cons (Source line member) fmmu [] (inr (record { index = e.0; area = e.1; found = ap (slice_get member.slave.areas) none ∙ found; is = refl })) (All-nil (Source line member)))

-- a block of the line is of one of its slaves
pub record IsOfMember (line : List Member) (member : Member) (block : LineBlock) : Type 0 where
  pub station_is : block.station ≡ member.slave.station
  pub source : Source line member block.block

pub member-sources : (line : List Member) (member : Member) → All (IsOfMember line member) (member_blocks line member)
member-sources line member =
    let blocks = slave_blocks line member in
    All-map (IsOfMember line member) (λ (e : ℕ × RegisterBlock). record { station = member.slave.station; number = e.0; block = e.1 }) (enumerate_from 0 blocks)
    (All-weaker (λ (e : ℕ × RegisterBlock). Source line member e.1) (λ (e : ℕ × RegisterBlock). IsOfMember line member (record { station = member.slave.station; number = e.0; block = e.1 }))
    (λ e source. record { station_is = refl; source = source })
    (enumerate_from 0 blocks) (All-enumerate_from (Source line member) 0 blocks (slave-sources line member)))

pub record IsOfLine (line : List Member) (block : LineBlock) : Type 0 where
  pub member : Member
  pub in_line : Contains line member
  pub of_member : IsOfMember line member block

pub line-sources : (line : List Member) → All (IsOfLine line) (line_blocks line)
line-sources line =
    All-flat_map (IsOfLine line) (member_blocks line) line
    (λ j d low. All-weaker (IsOfMember line (slice_index_or line j d)) (IsOfLine line)
    (λ block own. record { member = slice_index_or line j d; in_line = Contains-get_or line j d low; of_member = own })
    (member_blocks line (slice_index_or line j d)) (member-sources line (slice_index_or line j d)))

-- a pair of a block is a pair of the area whose block it is, where it is mapped

pub record PairOf (line : List Member) (member : Member) (block : LineBlock) (x m : ℕ) : Type 0 where
  pub index : ℕ
  pub area : Area
  pub mapping : Mapping
  pub found : slice_get member.slave.areas index ≡ Some area
  pub is : block.block ≡ own_fmmu line member index area
  pub mapped : mapping_of line area.task (member_area_key member index area) ≡ Some mapping
  pub pair : IsAreaPair area mapping x m

mapped-pair : (area : Area) (o : Option Mapping) (x m : ℕ) → LiesInMemory area → ((mapping : Mapping) → o ≡ Some mapping → IsMappable area mapping) → IsPair (fmmu_bytes area o) x m
    → (mapping : Mapping) × (o ≡ Some mapping) × IsAreaPair area mapping x m
mapped-pair area None x m inside fits pair = absurd (block-unmapped area x m pair)
mapped-pair area (Some mapping) x m inside fits pair = (mapping, refl, (block-pairs area mapping x m inside (fits mapping refl)).0 pair)

in-memory : (line : List Member) (member : Member) (index : ℕ) (area : Area) → KeepsLine line → Contains line member → slice_get member.slave.areas index ≡ Some area → LiesInMemory area
in-memory line member index area stays has found = area-in-memory area (area-inside line member index area stays has found) (area-width line member index area stays has found)

mappable : (line : List Member) (member : Member) (index : ℕ) (area : Area) (mapping : Mapping) → KeepsLine line → Contains line member → slice_get member.slave.areas index ≡ Some area
    → mapping_of line area.task (member_area_key member index area) ≡ Some mapping → IsMappable area mapping
mappable line member index area mapping stays has found mapped =
    place-mappable line member index area mapping (area-inside line member index area stays has found).task (mapped-place line member index area mapping stays has found mapped)

pub area-pair : (line : List Member) (member : Member) (index : ℕ) (area : Area) (x m : ℕ) → KeepsLine line → Contains line member → slice_get member.slave.areas index ≡ Some area
    → IsPair (fmmu_bytes area (mapping_of line area.task (member_area_key member index area))) x m
    → (mapping : Mapping) × (mapping_of line area.task (member_area_key member index area) ≡ Some mapping) × IsAreaPair area mapping x m
area-pair line member index area x m stays has found pair =
    mapped-pair area (mapping_of line area.task (member_area_key member index area)) x m (in-memory line member index area stays has found)
    (λ mapping mapped. mappable line member index area mapping stays has found mapped) pair

pub pair-of : (line : List Member) (member : Member) (block : LineBlock) (x m : ℕ) → KeepsLine line → Contains line member → IsOfMember line member block → IsBlockPair block x m
    → PairOf line member block x m
pair-of line member block x m stays has own pair = by own.source
  where
    by : Source line member block.block → PairOf line member block x m
    by (inl manager) =
        let register : block.block.register ≡ 2048 + 8 * manager.area.sm = ap (λ (b : RegisterBlock). b.register) manager.is in
        let below = pair.below in
        absurd (omega arith)
    by (inr source) =
        let area = source.area in
        let answer_given = area-pair line member source.index area x m stays has source.found (subst (λ (b : RegisterBlock). IsPair b.bytes x m) source.is pair.pair) in
        record { index = source.index; area = area; mapping = answer_given.0; found = source.found; is = source.is; mapped = answer_given.1; pair = answer_given.2 }

-- the blocks of a slave are in the line

pub block-in-line : (line : List Member) (member : Member) (block : RegisterBlock) → Contains line member → Contains (slave_blocks line member) block
    → (number : ℕ) × Contains (line_blocks line) (record { station = member.slave.station; number = number; block = block })
block-in-line line member block has (k, within, at_k) =
    let blocks = slave_blocks line member in
    let found : slice_get blocks k ≡ Some block = slice_get-get_or blocks k block within ∙ ap Some at_k in
    let make : ℕ × RegisterBlock → LineBlock = λ e. record { station = member.slave.station; number = e.0; block = e.1 } in
    let in_member : Contains (member_blocks line member) (record { station = member.slave.station; number = 0 + k; block = block }) =
    contains-mapped make (enumerate_from 0 blocks) (0 + k, block) (contains-numbered 0 k blocks block found) in
    (0 + k, contains-joined (member_blocks line) line member (record { station = member.slave.station; number = 0 + k; block = block }) has in_member)

pub fmmu-in-slave : (line : List Member) (member : Member) (index : ℕ) (area : Area) → slice_get member.slave.areas index ≡ Some area
    → Contains (slave_blocks line member) (own_fmmu line member index area)
fmmu-in-slave line member index area found =
    let numbered = enumerate_from 0 member.slave.areas in
    let fmmu = own_fmmu line member index area in
    let number : 0 + index ≡ index = omega arith in
    let element : Contains numbered (index, area) = subst (λ (n : ℕ). Contains numbered (n, area)) number (contains-numbered 0 index member.slave.areas area found) in
    contains-joined (area_blocks line member.rank) numbered (index, area) fmmu element (contains-later (sync_manager_block area) fmmu (fmmu ∷ []) (contains-first fmmu []))

-- slave by slave, the pairs of the blocks are the areas'

blocks-to-areas : (line : List Member) (station x m : ℕ) → KeepsLine line → LineBlockPairs line station x m → LinePairs line station x m
blocks-to-areas line station x m stays pairs =
    let source = All-contains (IsOfLine line) (line_blocks line) pairs.block (line-sources line) pairs.in_line in
    let answer_given = pair-of line source.member pairs.block x m stays source.in_line source.of_member pairs.pair in
    record {
      member = source.member;
      index = answer_given.index;
      area = answer_given.area;
      mapping = answer_given.mapping;
      station_is = sym source.of_member.station_is ∙ pairs.station_is;
      is_mapped = record { in_line = source.in_line; in_record = answer_given.found; mapped = answer_given.mapped };
      pair = answer_given.pair;
    }

pub mapped-area : (line : List Member) (member : Member) (index : ℕ) (area : Area) (mapping : Mapping) (x m : ℕ) → KeepsLine line → IsMapped line member index area mapping
    → IsAreaPair area mapping x m → IsPair (mapped_bytes area mapping) x m
mapped-area line member index area mapping x m stays is pair =
    (block-pairs area mapping x m (in-memory line member index area stays is.in_line is.in_record) (mappable line member index area mapping stays is.in_line is.in_record is.mapped)).1 pair

areas-to-blocks : (line : List Member) (station x m : ℕ) → KeepsLine line → LinePairs line station x m → LineBlockPairs line station x m
areas-to-blocks line station x m stays pairs =
    let is = pairs.is_mapped in
    let area = pairs.area in
    let fmmu = own_fmmu line pairs.member pairs.index area in
    let block = block-in-line line pairs.member fmmu is.in_line (fmmu-in-slave line pairs.member pairs.index area is.in_record) in
    let few : pairs.index < 8 = omega (arith, (slave-of line pairs.member stays is.in_line).few, slice_get_within pairs.member.slave.areas pairs.index area is.in_record) in
    record {
      block = record { station = pairs.member.slave.station; number = block.0; block = fmmu };
      in_line = block.1;
      station_is = pairs.station_is;
      pair = record {
        from = omega arith;
        below = omega arith;
        pair = subst (λ (o : Option Mapping). IsPair (fmmu_bytes area o) x m) (sym is.mapped) (mapped-area line pairs.member pairs.index area pairs.mapping x m stays is pairs.pair);
      };
    }

pub lines-pair : LinesPairTheirAreas
lines-pair state station x m can =
    let stays = stays-line state can in
    (blocks-to-areas (line state) station x m stays, areas-to-blocks (line state) station x m stays)
