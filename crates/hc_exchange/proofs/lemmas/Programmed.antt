-- The machines of a line once its blocks are written.
use Rattle.std.proofs.Common.{◌≡◌, ℕ, ◌+◌, ◌-◌, ◌*◌, ◌^◌, ◌<◌, ◌≤◌, ◌⊎◌, ◌∙◌, inl, inr, suc, List, [], ◌∷◌, length, get_or, take, drop, refl, sym, ap, subst, arith, length-append, length-drop, length-take}
use Rattle.std.specs.Prelude.{All, AllPairs, Contains, None, Some, map, option_map, replicate, slice_get, slice_index_or, slice_range}
use Rattle.std.specs.List.{enumerate_from, flat_map}
use Rattle.std.proofs.lemmas.List.{ext_get_or, get_or-drop, get_or-take, length-map}
use Rattle.std.proofs.lemmas.List.Elements.{All-map, All-contains, All-head, All-tail, All-weaker}
use Rattle.std.proofs.lemmas.Option.{get_or_from_slice_get, slice_get-get_or, slice_get-map, slice_get_cases, slice_get_within}
use Rattle.hc_bits.specs.Bits.{AreBytes}
use Rattle.hc_records.specs.declared.records.Area.{Area}
use Rattle.hc_records.specs.Line.{IsCounted, Member, State, line}
use Rattle.hc_records.proofs.lemmas.Slaves.{project-counted}
use Rattle.hc_records.proofs.lemmas.Walks.{length-line}
use Rattle.hc_registers.specs.declared.fmmu.Mapping.{Mapping}
use Rattle.hc_registers.specs.Blocks.{LineBlock, RegisterBlock, area_blocks, fmmu_bytes, line_blocks, mapped_bytes, mapping_of, member_blocks, slave_blocks, sync_manager_block}
use Rattle.hc_machine.specs.Fmmus.{fmmu_block_at}
use Rattle.hc_machine.specs.Laws.{IsPair}
use Rattle.hc_exchange.specs.PairLaws.{IsConfigurable}
use Rattle.hc_exchange.specs.Pairs.{LinePairs, IsAreaPair, IsMapped, member_area_key}
use Rattle.hc_exchange.specs.Writing.{AreMachinesOf, ChangesBlocksAlone, IsMachineOf, IsProgrammed, MachinePairs}
use Rattle.hc_exchange.specs.WritingLaws.{ProgrammedSlavesPairTheirAreas, WritingKeepsBytes, WritingKeepsTheCount, WritingProgramsTheLine, machines_written}
use Rattle.hc_exchange.proofs.Blocks.{Leaves, OwnApart, block-byte, blocks-stay, blocks_after}
use Rattle.hc_exchange.proofs.lemmas.Members.{KeepsLine, area-inside, stays-line, one-station, slave-of}
use Rattle.hc_exchange.proofs.lemmas.Shared.{Differ, all-share, length-fmmu}
use Rattle.hc_exchange.proofs.lemmas.Sources.{IsOfLine, IsOfMember, Source, area-pair, block-in-line, fmmu-in-slave, line-sources, mapped-area, own_fmmu, slave-sources}
use Rattle.hc_exchange.proofs.Small.{blocks-small, memory-small}
use Rattle.hc_exchange.proofs.Through.{blocks-through}
use Rattle.hc_exchange.proofs.Wrote.{IsPlain, Misses}

-- each block of the line can be written

pub record IsSized (block : RegisterBlock) : Type 0 where
  pub from : 1536 ≤ block.register
  pub to : block.register + length block.bytes ≤ 4096
  pub some : 1 ≤ length block.bytes
  pub few : length block.bytes ≤ 16

pub source-sized : (line : List Member) (member : Member) (block : RegisterBlock) → KeepsLine line → Contains line member → Source line member block → IsSized block
source-sized line member block stays_so has (inl manager) =
    let area = manager.area in
    let low : area.sm ≤ 15 = (area-inside line member manager.index area stays_so has manager.found).manager in
    let sized : IsSized (sync_manager_block area) = record { from = omega arith; to = omega arith; some = omega arith; few = omega arith } in
    subst IsSized (sym manager.is) sized
source-sized line member block stays_so has (inr source) =
    let few = (slave-of line member stays_so has).few in
    let within = slice_get_within member.slave.areas source.index source.area source.found in
    let mapping = mapping_of line source.area.task (member_area_key member source.index source.area) in
    let long = length-fmmu source.area mapping in
    let sized : IsSized (own_fmmu line member source.index source.area) = record { from = omega arith; to = omega arith; some = omega arith; few = omega arith } in
    subst IsSized (sym source.is) sized

pub all-plain : (line : List Member) → KeepsLine line → All (λ member. member.slave.station < 65536) line → All IsPlain (line_blocks line)
all-plain line stays_so low =
    All-weaker (IsOfLine line) IsPlain
    (λ block own.
    let sized = source-sized line own.member block.block stays_so own.in_line own.of_member.source in
    record {
      station = subst (λ (n : ℕ). n < 65536) (sym own.of_member.station_is) (All-contains (λ (m : Member). m.slave.station < 65536) line own.member low own.in_line);
      from = sized.from;
      to = sized.to;
      some = sized.some;
      few = sized.few;
    })
    (line_blocks line) (line-sources line)

-- the blocks of one slave take no register in common

own-share : (line : List Member) → KeepsLine line → (member other : Member) (a b : LineBlock) → Contains line member → Contains line other → IsOfMember line member a → IsOfMember line other b
    → Differ member other a b → OwnApart a b
own-share line stays_so member other a b has has' own own' (inl apart) stations = apart
own-share line stays_so member other a b has has' own own' (inr lower) stations =
    let one : member ≡ other = one-station line member other stays_so has has' (sym own.station_is ∙ stations ∙ own'.station_is) in
    let ranks : member.rank ≡ other.rank = ap (λ (m : Member). m.rank) one in
    absurd (omega arith)

pub all-own : (line : List Member) → KeepsLine line → AllPairs OwnApart (line_blocks line)
all-own line stays_so = all-share OwnApart line stays_so (own-share line stays_so)

-- a line has few blocks

few-joined : {X Y : Type 0} (f : X → List Y) (most : ℕ) (xs : List X) → All (λ x. length (f x) ≤ most) xs → length (flat_map f xs) ≤ most * length xs
few-joined f most [] few = omega arith
few-joined f most (x ∷ xs) few =
    let first = All-head (λ z. length (f z) ≤ most) x xs few in
    let rest = few-joined f most xs (All-tail (λ z. length (f z) ≤ most) x xs few) in
    let long = length-append (f x) (flat_map f xs) in
    let more : most * length (x ∷ xs) ≡ most + most * length xs = grind arith in
    omega arith

length-numbered : {X : Type 0} (n : ℕ) (xs : List X) → length (enumerate_from n xs) ≡ length xs
length-numbered n [] = refl
length-numbered n (x ∷ xs) = ap suc (length-numbered (n + 1) xs)

pub few-blocks : (state : State) → IsConfigurable state → 0 + length (line_blocks (line state)) ≤ 2 ^ 40
few-blocks state can =
    let stays_so = stays-line state can in
    let members = line state in
    let each : All (λ member. length (member_blocks members member) ≤ 16) members =
    λ k d within. few-of-member members (slice_index_or members k d) (stays_so.slaves k d within).few in
    let most = few-joined (member_blocks members) 16 members each in
    let counted : IsCounted state.groups = project-counted state.groups can.project in
    let long = length-line 1 state.groups in
    omega arith
  where
    numbered-as : Member → ℕ × RegisterBlock → LineBlock
    numbered-as member e = record { station = member.slave.station; number = e.0; block = e.1 }

    few-of-member : (members : List Member) (member : Member) → length member.slave.areas ≤ 8 → length (member_blocks members member) ≤ 16
    few-of-member members member few =
        let numbered = enumerate_from 0 member.slave.areas in
        let made = length-map (enumerate_from 0 (slave_blocks members member)) (numbered-as member) in
        let count = length-numbered 0 (slave_blocks members member) in
        let most = few-joined (area_blocks members member.rank) 2 numbered (λ k d within. omega arith) in
        let long = length-numbered 0 member.slave.areas in
        omega arith

-- one slave's memory after all writes

-- bytes from a place of a memory on, each of them reported
pub range-is : (memory bytes : List ℕ) (from : ℕ) → from + length bytes ≤ length memory → ((i : ℕ) → i < length bytes → get_or memory (from + i) 0 ≡ get_or bytes i 0)
    → slice_range memory from (from + length bytes) ≡ bytes
range-is memory bytes from within same =
    let size : from + length bytes - from ≡ length bytes = omega arith in
    let long : length (take (from + length bytes - from) (drop from memory)) ≡ length bytes =
    length-take (from + length bytes - from) (drop from memory) ∙ omega (arith, length-drop from memory) in
    ext_get_or 0 (take (from + length bytes - from) (drop from memory)) bytes long
    (λ i low. get_or-take (from + length bytes - from) (drop from memory) i 0 (omega arith) ∙ get_or-drop from memory i 0 ∙ same i (omega arith))

slave-block : (line : List Member) (member : Member) (memory : List ℕ) (block : RegisterBlock) → KeepsLine line → Contains line member → All IsPlain (line_blocks line)
    → IsMachineOf member memory → Contains (slave_blocks line member) block
    → slice_range (blocks_after memory (line_blocks line)) block.register (block.register + length block.bytes) ≡ block.bytes
slave-block line member memory block stays_so has plain machine within =
    let station = member.slave.station in
    let blocks = line_blocks line in
    let stays = blocks-stay memory station blocks machine.size machine.programmable.station plain in
    let sized = source-sized line member block stays_so has (All-contains (Source line member) (slave_blocks line member) block (slave-sources line member) within) in
    let to = sized.to in
    let long = stays.size in
    let own = block-in-line line member block has within in
    let entry : LineBlock = record { station = station; number = own.0; block = block } in
    range-is (blocks_after memory blocks) block.bytes block.register (omega arith)
    (λ i low.
    let back : block.register + i - block.register ≡ i = omega arith in
    block-byte memory station blocks entry (block.register + i) machine.size machine.programmable.station plain (all-own line stays_so) own.1 refl (omega arith) (omega arith)
    ∙ ap (λ (n : ℕ). get_or block.bytes n 0) back)

-- a byte that none of the slave's blocks takes
untaken : (line : List Member) (member : Member) (r : ℕ) → KeepsLine line → Contains line member
    → ((block : RegisterBlock) → Source line member block → Misses block.register (length block.bytes) r) → All (Leaves member.slave.station r) (line_blocks line)
untaken line member r stays_so has misses =
    All-weaker (IsOfLine line) (Leaves member.slave.station r)
    (λ block own same.
    let one : own.member ≡ member = one-station line own.member member stays_so own.in_line has (sym own.of_member.station_is ∙ same) in
    misses block.block (subst (λ (m : Member). Source line m block.block) one own.of_member.source))
    (line_blocks line) (line-sources line)

changed-alone : (line : List Member) (member : Member) (memory : List ℕ) → KeepsLine line → Contains line member → All IsPlain (line_blocks line) → IsMachineOf member memory
    → ChangesBlocksAlone memory (blocks_after memory (line_blocks line))
changed-alone line member memory stays_so has plain machine r outside =
    (blocks-stay memory member.slave.station (line_blocks line) machine.size machine.programmable.station plain).outside r
    (untaken line member r stays_so has (λ block source. misses (source-sized line member block stays_so has source) outside))
  where
    misses : {block : RegisterBlock} → IsSized block → (r < 1536) ⊎ (4096 ≤ r) → Misses block.register (length block.bytes) r
    misses sized (inl low) = let from = sized.from in inl (omega arith)
    misses sized (inr high) = let to = sized.to in inr (omega arith)

pub history-areas : (line : List Member) (member : Member) (i r : ℕ) (block : RegisterBlock) → length member.slave.areas ≤ i → 1536 + 16 * i ≤ r → r < 1536 + 16 * 16 → Source line member block
    → Misses block.register (length block.bytes) r
history-areas line member i r block history low high (inl manager) =
    let register : block.register ≡ 2048 + 8 * manager.area.sm = ap (λ (b : RegisterBlock). b.register) manager.is in
    inl (omega arith)
history-areas line member i r block history low high (inr source) =
    let within = slice_get_within member.slave.areas source.index source.area source.found in
    let register : block.register ≡ 1536 + 16 * source.index = ap (λ (b : RegisterBlock). b.register) source.is in
    let long : length block.bytes ≡ 16 =
    ap (λ (b : RegisterBlock). length b.bytes) source.is ∙ length-fmmu source.area (mapping_of line source.area.task (member_area_key member source.index source.area)) in
    inr (omega arith)

unused-stays : (line : List Member) (member : Member) (memory : List ℕ) (i : ℕ) → KeepsLine line → Contains line member → All IsPlain (line_blocks line) → IsMachineOf member memory
    → length member.slave.areas ≤ i → i < 16 → fmmu_block_at (blocks_after memory (line_blocks line)) i ≡ replicate 16 0
unused-stays line member memory i stays_so has plain machine history low =
    let blocks = line_blocks line in
    let stays = blocks-stay memory member.slave.station blocks machine.size machine.programmable.station plain in
    let at = 1536 + 16 * i in
    let long = stays.size in
    range-is (blocks_after memory blocks) (replicate 16 0) at (omega arith)
    (λ j below. stays.outside (at + j) (untaken line member (at + j) stays_so has (λ block source. history-areas line member i (at + j) block history (omega arith) (omega arith) source))
    ∙ sym (get_or-drop at memory j 0) ∙ sym (get_or-take (at + 16 - at) (drop at memory) j 0 (omega arith))
    ∙ ap (λ (block : List ℕ). get_or block j 0) (machine.programmable.unused i history low))

-- each machine of a line is its slave's

machine-at : (line : List Member) (machines : List (List ℕ)) (k : ℕ) (member : Member) (memory : List ℕ) → AreMachinesOf line machines → k < length line
    → IsMachineOf (slice_index_or line k member) (slice_index_or machines k memory)
machine-at line machines k member memory are low =
    let count = are.count in
    are.each k (slice_index_or line k member) (slice_index_or machines k memory) (slice_get-get_or line k member low) (slice_get-get_or machines k memory (omega arith))

addresses-low : (line : List Member) (machines : List (List ℕ)) → AreMachinesOf line machines → All (λ member. member.slave.station < 65536) line
addresses-low line machines are k d low = (machine-at line machines k d [] are low).address

machines-long : (line : List Member) (machines : List (List ℕ)) → AreMachinesOf line machines → All (λ m. length m ≡ 12288) machines
machines-long line machines are k d low =
    let count = are.count in
    by (slice_get_cases line k).1
  where
    by : ((member : Member) × (k < length line) × (slice_get line k ≡ Some member) × (get_or line k member ≡ member)) ⊎ ((length line ≤ k) × (slice_get line k ≡ None))
        → length (slice_index_or machines k d) ≡ 12288
    by (inl found) = (are.each k found.0 (slice_index_or machines k d) found.2 (slice_get-get_or machines k d low)).size
    by (inr history) = let count = are.count in let beyond = history.0 in absurd (omega arith)

machines-after_it : (state : State) (machines : List (List ℕ)) → IsConfigurable state → AreMachinesOf (line state) machines
    → machines_written (line state) machines ≡ map (λ m. blocks_after m (line_blocks (line state))) machines
machines-after_it state machines can are =
    let members = line state in
    blocks-through (line_blocks members) machines 0 (few-blocks state can) (all-plain members (stays-line state can) (addresses-low members machines are)) (machines-long members machines are)

pub writing-programs : WritingProgramsTheLine
writing-programs state machines k member memory can are in_line in_machines =
    let members = line state in
    let blocks = line_blocks members in
    let stays_so = stays-line state can in
    let plain = all-plain members stays_so (addresses-low members machines are) in
    let machine = are.each k member memory in_line in_machines in
    let has : Contains members member = (k, slice_get_within members k member in_line, get_or_from_slice_get members k member member in_line) in
    let stays = blocks-stay memory member.slave.station blocks machine.size machine.programmable.station plain in
    record {
      written = blocks_after memory blocks;
      machine = ap (λ (xs : List (List ℕ)). slice_get xs k) (machines-after_it state machines can are) ∙ slice_get-map (λ m. blocks_after m blocks) machines k
          ∙ ap (option_map (λ m. blocks_after m blocks)) in_machines;
      programmed = record {
        machine = record { size = stays.size; address = machine.address; programmable = record { station = stays.station_is; unused = λ i history low. unused-stays members member memory i stays_so has plain machine history low } };
        blocks = λ block within. slave-block members member memory block stays_so has plain machine within;
      };
      alone = changed-alone members member memory stays_so has plain machine;
    }

pub writing-counts : WritingKeepsTheCount
writing-counts state machines can are = ap length (machines-after_it state machines can are) ∙ length-map machines (λ (m : List ℕ). blocks_after m (line_blocks (line state)))

pub writing-bytes : WritingKeepsBytes
writing-bytes state machines can are small =
    let members = line state in
    let blocks = line_blocks members in
    let plain = all-plain members (stays-line state can) (addresses-low members machines are) in
    subst (All AreBytes) (sym (machines-after_it state machines can are))
    (All-map AreBytes (λ m. blocks_after m blocks) machines
    (λ k d low. memory-small (slice_index_or machines k d) blocks (machines-long members machines are k d low) plain (small k d low) (blocks-small members)))

-- what the FMMUs of a slave pair that is programmed

pub none-zero : (x m : ℕ) → ¬ (IsPair (replicate 16 0) x m)
none-zero x m pair = let active = pair.active in cc

fmmu-is_placed : (line : List Member) (member : Member) (memory : List ℕ) (index : ℕ) (area : Area) → IsProgrammed line member memory → slice_get member.slave.areas index ≡ Some area
    → fmmu_block_at memory index ≡ fmmu_bytes area (mapping_of line area.task (member_area_key member index area))
fmmu-is_placed line member memory index area programmed found =
    let at = 1536 + 16 * index in
    ap (λ (n : ℕ). slice_range memory at (at + n)) (sym (length-fmmu area (mapping_of line area.task (member_area_key member index area))))
    ∙ programmed.blocks (own_fmmu line member index area) (fmmu-in-slave line member index area found)

-- a pair of an FMMU of the slave is one of the area of its number
pub record SlaveFmmu (line : List Member) (member : Member) (memory : List ℕ) (i x m : ℕ) : Type 0 where
  pub area : Area
  pub mapping : Mapping
  pub is : IsMapped line member i area mapping
  pub is_placed : fmmu_block_at memory i ≡ mapped_bytes area mapping
  pub pair : IsAreaPair area mapping x m

pub slave-fmmu : (line : List Member) (member : Member) (memory : List ℕ) (i x m : ℕ) → KeepsLine line → Contains line member → IsProgrammed line member memory → i < 16
    → IsPair (fmmu_block_at memory i) x m → SlaveFmmu line member memory i x m
slave-fmmu line member memory i x m stays_so has programmed low pair = by (slice_get_cases areas i).1
  where
    areas : List Area
    areas = member.slave.areas

    by : ((area : Area) × (i < length areas) × (slice_get areas i ≡ Some area) × (get_or areas i area ≡ area)) ⊎ ((length areas ≤ i) × (slice_get areas i ≡ None))
        → SlaveFmmu line member memory i x m
    by (inl found) =
        let area = found.0 in
        let mapping = mapping_of line area.task (member_area_key member i area) in
        let is_placed = fmmu-is_placed line member memory i area programmed found.2 in
        let answer_given = area-pair line member i area x m stays_so has found.2 (subst (λ (block : List ℕ). IsPair block x m) is_placed pair) in
        record {
          area = area;
          mapping = answer_given.0;
          is = record { in_line = has; in_record = found.2; mapped = answer_given.1 };
          is_placed = is_placed ∙ ap (fmmu_bytes area) answer_given.1;
          pair = answer_given.2;
        }
    by (inr history) = absurd (none-zero x m (subst (λ (block : List ℕ). IsPair block x m) (programmed.machine.programmable.unused i history.0 low) pair))

slave-to-areas : (line : List Member) (member : Member) (memory : List ℕ) (x m : ℕ) → KeepsLine line → Contains line member → IsProgrammed line member memory → MachinePairs memory x m
    → LinePairs line member.slave.station x m
slave-to-areas line member memory x m stays_so has programmed pairs =
    let answer_given = slave-fmmu line member memory pairs.fmmu x m stays_so has programmed pairs.below pairs.pair in
    record { member = member; index = pairs.fmmu; area = answer_given.area; mapping = answer_given.mapping; station_is = refl; is_mapped = answer_given.is; pair = answer_given.pair }

-- and the FMMU of an area that is mapped is in the machine of its slave
pub record AreaIsThere (memory : List ℕ) (index : ℕ) (area : Area) (mapping : Mapping) : Type 0 where
  pub below : index < 16
  pub is_placed : fmmu_block_at memory index ≡ mapped_bytes area mapping

pub area-is_placed : (line : List Member) (member : Member) (memory : List ℕ) (x m : ℕ) → KeepsLine line → Contains line member → IsProgrammed line member memory
    → (pairs : LinePairs line member.slave.station x m) → AreaIsThere memory pairs.index pairs.area pairs.mapping
area-is_placed line member memory x m stays_so has programmed pairs =
    let is = pairs.is_mapped in
    let one : member ≡ pairs.member = sym (one-station line pairs.member member stays_so is.in_line has pairs.station_is) in
    let own : IsProgrammed line pairs.member memory = subst (λ (slave : Member). IsProgrammed line slave memory) one programmed in
    let few = (slave-of line pairs.member stays_so is.in_line).few in
    let within = slice_get_within pairs.member.slave.areas pairs.index pairs.area is.in_record in
    record { below = omega arith; is_placed = fmmu-is_placed line pairs.member memory pairs.index pairs.area own is.in_record ∙ ap (fmmu_bytes pairs.area) is.mapped }

areas-to-slave : (line : List Member) (member : Member) (memory : List ℕ) (x m : ℕ) → KeepsLine line → Contains line member → IsProgrammed line member memory
    → LinePairs line member.slave.station x m → MachinePairs memory x m
areas-to-slave line member memory x m stays_so has programmed pairs =
    let answer_given = area-is_placed line member memory x m stays_so has programmed pairs in
    let is = pairs.is_mapped in
    record {
      fmmu = pairs.index;
      below = answer_given.below;
      pair = subst (λ (block : List ℕ). IsPair block x m) (sym answer_given.is_placed)
          (mapped-area line pairs.member pairs.index pairs.area pairs.mapping x m stays_so is pairs.pair);
    }

pub programmed-pairs : ProgrammedSlavesPairTheirAreas
programmed-pairs state member memory x m can has programmed =
    let stays_so = stays-line state can in
    (slave-to-areas (line state) member memory x m stays_so has programmed, areas-to-slave (line state) member memory x m stays_so has programmed)
