-- The numbers of a slave's blocks: the sync manager of the area at index i has 2 × i, and its FMMU the number after it.
use Rattle.std.proofs.Common.{◌≡◌, ℕ, zero, suc, ◌+◌, ◌*◌, ◌∙◌, List, [], ◌∷◌, length, map, refl, sym, ap, arith, Option}
use Rattle.std.specs.Prelude.{Contains, Some, slice_get}
use Rattle.std.specs.List.{enumerate_from, flat_map}
use Rattle.hc_records.specs.declared.records.Area.{Area}
use Rattle.hc_records.specs.Line.{Member}
use Rattle.hc_registers.specs.Blocks.{LineBlock, RegisterBlock, area_blocks, fmmu_block, line_blocks, mapping_of, member_blocks, slave_blocks, sync_manager_block}
use Rattle.hc_plan.proofs.lemmas.Configured.{at-contained, contained-own, get-own, made}
use Rattle.hc_plan.proofs.lemmas.Elements.{contains-joined}
use Rattle.hc_exchange.proofs.lemmas.Shared.{length-fmmu}
use Rattle.hc_exchange.proofs.lemmas.Sources.{own_fmmu}

-- the two blocks of an area in the row of all
record AreAt (line : List Member) (rank n i : ℕ) (areas : List Area) (area : Area) : Type 0 where
  manager : slice_get (flat_map (area_blocks line rank) (enumerate_from n areas)) (2 * i) ≡ Some (sync_manager_block area)
  fmmu : slice_get (flat_map (area_blocks line rank) (enumerate_from n areas)) (2 * i + 1)
      ≡ Some (fmmu_block (n + i) area (mapping_of line area.task (record { dir = area.dir; rank = rank; area = n + i })))

are-at : (line : List Member) (rank n i : ℕ) (areas : List Area) (area : Area) → slice_get areas i ≡ Some area → AreAt line rank n i areas area
are-at line rank n i [] area found = cc
are-at line rank n zero (first ∷ areas) area found =
    let one : first ≡ area = cc in
    let none : n ≡ n + 0 = omega arith in
    record {
      manager = ap (λ (a : Area). Some (sync_manager_block a)) one;
      fmmu = ap (λ (k : ℕ). Some (fmmu_block k first (mapping_of line first.task (record { dir = first.dir; rank = rank; area = k })))) none
          ∙ ap (λ (a : Area). Some (fmmu_block (n + 0) a (mapping_of line a.task (record { dir = a.dir; rank = rank; area = n + 0 })))) one;
    }
are-at line rank n (suc i) (first ∷ areas) area found =
    let rest = are-at line rank (n + 1) i areas area found in
    let all = flat_map (area_blocks line rank) (enumerate_from n (first ∷ areas)) in
    let twice : 2 * suc i ≡ suc (suc (2 * i)) = omega arith in
    let after_it : 2 * suc i + 1 ≡ suc (suc (2 * i + 1)) = omega arith in
    let number : n + 1 + i ≡ n + suc i = omega arith in
    record {
      manager = ap (slice_get all) twice ∙ rest.manager;
      fmmu = ap (slice_get all) after_it ∙ rest.fmmu
          ∙ ap (λ (k : ℕ). Some (fmmu_block k area (mapping_of line area.task (record { dir = area.dir; rank = rank; area = k })))) number;
    }

-- and which area the block with an FMMU's number is of
odd-at : (line : List Member) (rank n i : ℕ) (areas : List Area) (block : RegisterBlock) → slice_get (flat_map (area_blocks line rank) (enumerate_from n areas)) (2 * i + 1) ≡ Some block
    → (area : Area) × (slice_get areas i ≡ Some area) × (block ≡ fmmu_block (n + i) area (mapping_of line area.task (record { dir = area.dir; rank = rank; area = n + i })))
odd-at line rank n i [] block is = cc
odd-at line rank n zero (first ∷ areas) block is =
    let same : fmmu_block n first (mapping_of line first.task (record { dir = first.dir; rank = rank; area = n })) ≡ block = cc in
    let none : n ≡ n + 0 = omega arith in
    (first, refl, sym same ∙ ap (λ (k : ℕ). fmmu_block k first (mapping_of line first.task (record { dir = first.dir; rank = rank; area = k }))) none)
odd-at line rank n (suc i) (first ∷ areas) block is =
    let all = flat_map (area_blocks line rank) (enumerate_from n (first ∷ areas)) in
    let after_it : 2 * suc i + 1 ≡ suc (suc (2 * i + 1)) = omega arith in
    let number : n + 1 + i ≡ n + suc i = omega arith in
    let rest = odd-at line rank (n + 1) i areas block (ap (slice_get all) (sym after_it) ∙ is) in
    (rest.0, rest.1, rest.2 ∙ ap (λ (k : ℕ). fmmu_block k rest.0 (mapping_of line rest.0.task (record { dir = rest.0.dir; rank = rank; area = k }))) number)

pub odd-block : (line : List Member) (member : Member) (index : ℕ) (block : RegisterBlock) → slice_get (slave_blocks line member) (2 * index + 1) ≡ Some block
    → (area : Area) × (slice_get member.slave.areas index ≡ Some area) × (block ≡ own_fmmu line member index area)
odd-block line member index block is =
    let none : 0 + index ≡ index = omega arith in
    let own = odd-at line member.rank 0 index member.slave.areas block is in
    (own.0, own.1, own.2 ∙ ap (λ (k : ℕ). fmmu_block k own.0 (mapping_of line own.0.task (record { dir = own.0.dir; rank = member.rank; area = k }))) none)

-- as blocks of the line

in-line : (line : List Member) (member : Member) (number : ℕ) (block : RegisterBlock) → Contains line member → slice_get (slave_blocks line member) number ≡ Some block
    → Contains (member_blocks line member) (record { station = member.slave.station; number = number; block = block })
in-line line member number block has found =
    at-contained (member_blocks line member) number (record { station = member.slave.station; number = number; block = block })
    (get-own member.slave.station number (slave_blocks line member) ∙ ap (made member.slave.station number) found)

-- the blocks of the area at an index

abbrev pub fmmu_line_block : List Member → Member → ℕ → Area → LineBlock
fmmu_line_block line member index area = record { station = member.slave.station; number = 2 * index + 1; block = own_fmmu line member index area }

abbrev pub manager_line_block : Member → ℕ → Area → LineBlock
manager_line_block member index area = record { station = member.slave.station; number = 2 * index; block = sync_manager_block area }

pub fmmu-of_member : (line : List Member) (member : Member) (index : ℕ) (area : Area) → Contains line member → slice_get member.slave.areas index ≡ Some area
    → Contains (member_blocks line member) (fmmu_line_block line member index area)
fmmu-of_member line member index area has found =
    let none : 0 + index ≡ index = omega arith in
    in-line line member (2 * index + 1) (own_fmmu line member index area) has
    ((are-at line member.rank 0 index member.slave.areas area found).fmmu
    ∙ ap (λ (k : ℕ). Some (fmmu_block k area (mapping_of line area.task (record { dir = area.dir; rank = member.rank; area = k })))) none)

pub manager-of_member : (line : List Member) (member : Member) (index : ℕ) (area : Area) → Contains line member → slice_get member.slave.areas index ≡ Some area
    → Contains (member_blocks line member) (manager_line_block member index area)
manager-of_member line member index area has found =
    in-line line member (2 * index) (sync_manager_block area) has (are-at line member.rank 0 index member.slave.areas area found).manager

pub fmmu-in-line : (line : List Member) (member : Member) (index : ℕ) (area : Area) → Contains line member → slice_get member.slave.areas index ≡ Some area
    → Contains (line_blocks line) (fmmu_line_block line member index area)
fmmu-in-line line member index area has found = contains-joined (member_blocks line) line member (fmmu_line_block line member index area) has (fmmu-of_member line member index area has found)

-- a slave with the same sync managers has the same registers

record SameRegister (b' : RegisterBlock) (found : Option RegisterBlock) : Type 0 where
  b : RegisterBlock
  is : found ≡ Some b
  register : b.register ≡ b'.register
  size : length b.bytes ≡ length b'.bytes

same-register : (line line' : List Member) (rank rank' n k : ℕ) (areas areas' : List Area) (b' : RegisterBlock) → map (λ (a : Area). a.sm) areas' ≡ map (λ (a : Area). a.sm) areas
    → slice_get (flat_map (area_blocks line' rank') (enumerate_from n areas')) k ≡ Some b' → SameRegister b' (slice_get (flat_map (area_blocks line rank) (enumerate_from n areas)) k)
same-register line line' rank rank' n k areas [] b' same is = cc
same-register line line' rank rank' n k [] (a' ∷ areas') b' same is = cc
same-register line line' rank rank' n zero (a ∷ areas) (a' ∷ areas') b' same is =
    let sm : a'.sm ≡ a.sm = cc in
    let one : sync_manager_block a' ≡ b' = cc in
    record { b = sync_manager_block a; is = refl; register = ap (λ (m : ℕ). 2048 + 8 * m) (sym sm) ∙ ap (λ (b : RegisterBlock). b.register) one; size = ap (λ (b : RegisterBlock). length b.bytes) one }
same-register line line' rank rank' n (suc zero) (a ∷ areas) (a' ∷ areas') b' same is =
    let mapping = mapping_of line a.task (record { dir = a.dir; rank = rank; area = n }) in
    let mapping' = mapping_of line' a'.task (record { dir = a'.dir; rank = rank'; area = n }) in
    let one : fmmu_block n a' mapping' ≡ b' = cc in
    record {
      b = fmmu_block n a mapping;
      is = refl;
      register = ap (λ (b : RegisterBlock). b.register) one;
      size = length-fmmu a mapping ∙ sym (length-fmmu a' mapping') ∙ ap (λ (b : RegisterBlock). length b.bytes) one;
    }
same-register line line' rank rank' n (suc (suc k)) (a ∷ areas) (a' ∷ areas') b' same is =
    let rest : map (λ (x : Area). x.sm) areas' ≡ map (λ (x : Area). x.sm) areas = cc in
    let found = same-register line line' rank rank' (n + 1) k areas areas' b' rest is in
    record { b = found.b; is = found.is; register = found.register; size = found.size }

-- a block of the slave in another line: under the same number, at the same register, with as many bytes
pub record OtherBlock (line : List Member) (member : Member) (block' : LineBlock) : Type 0 where
  pub block : LineBlock
  pub has : Contains (member_blocks line member) block
  pub station : block.station ≡ block'.station
  pub number : block.number ≡ block'.number
  pub register : block.block.register ≡ block'.block.register
  pub size : length block.block.bytes ≡ length block'.block.bytes

pub other-block : (line line' : List Member) (member member' : Member) (block' : LineBlock) → Contains line member → member'.slave.station ≡ member.slave.station
    → map (λ (a : Area). a.sm) member'.slave.areas ≡ map (λ (a : Area). a.sm) member.slave.areas → Contains (member_blocks line' member') block' → OtherBlock line member block'
other-block line line' member member' block' in_line_has stations managers has =
    let own = contained-own member'.slave.station (slave_blocks line' member') block' has in
    let found = same-register line line' member.rank member'.rank 0 block'.number member.slave.areas member'.slave.areas block'.block managers own.1 in
    record {
      block = record { station = member.slave.station; number = block'.number; block = found.b };
      has = in-line line member block'.number found.b in_line_has found.is;
      station = sym stations ∙ sym own.0;
      number = refl;
      register = found.register;
      size = found.size;
    }
