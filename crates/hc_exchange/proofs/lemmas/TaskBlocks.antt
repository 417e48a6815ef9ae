-- Machines that have the FMMU blocks of a task's areas carry the task, and writing these blocks alone makes them so.
use Rattle.std.proofs.Common.{◌≡◌, ℕ, ◌+◌, ◌*◌, ◌<◌, ◌≤◌, ◌⊎◌, ◌∙◌, inl, inr, Bool, true, false, List, [], ◌∷◌, length, get_or, refl, sym, ap, subst, arith}
use Rattle.std.specs.Prelude.{◌≢◌, All, Contains, None, Some, option_map, slice_get, slice_index_or, slice_range}
use Rattle.std.proofs.lemmas.List.Elements.{All-contains, All-contains_itself, All-filter, All-head, All-tail}
use Rattle.std.proofs.lemmas.List.Kept.{AllPairs-filter}
use Rattle.std.proofs.lemmas.List.{length-map}
use Rattle.std.proofs.lemmas.Option.{get_or_from_slice_get, slice_get-get_or, slice_get-map, slice_get_cases, slice_get_within}
use Rattle.hc_records.specs.declared.records.Area.{Area}
use Rattle.hc_records.specs.Image.{logical_address}
use Rattle.hc_records.specs.Line.{Member, State, line}
use Rattle.hc_records.proofs.lemmas.Choices.{by_bool}
use Rattle.hc_registers.specs.declared.fmmu.Mapping.{Mapping}
use Rattle.hc_registers.specs.Blocks.{LineBlock, fmmu_bytes, line_blocks, mapped_bytes, mapping_of}
use Rattle.hc_frames.specs.Arrived.{word_at}
use Rattle.hc_machine.specs.Fmmus.{fmmu_block_at}
use Rattle.hc_machine.specs.Laws.{IsPair}
use Rattle.hc_segment.specs.Line.{machines_after}
use Rattle.hc_plan.proofs.lemmas.Elements.{contains-unchanged, contains-unkept}
use Rattle.hc_exchange.specs.PairLaws.{IsConfigurable}
use Rattle.hc_exchange.specs.Pairs.{LinePairs, IsAreaPair, IsMapped, member_area_key}
use Rattle.hc_exchange.specs.Carrying.{CarriesAsked, IsBitOfTask}
use Rattle.hc_exchange.specs.TaskBlocks.{ChoosesTask, FreshMachinesPass, HasTaskBlocks, IsBeforeTask, IsTaskArea, TaskBlocksCarry, WritingCarriesTheTask, chosen_blocks}
use Rattle.hc_exchange.specs.Writing.{write_frames}
use Rattle.hc_exchange.proofs.Blocks.{OwnApart, blocks-stay, blocks_after}
use Rattle.hc_exchange.proofs.Placing.{task-answer_given}
use Rattle.hc_exchange.proofs.Small.{IsByte, blocks-small, memory-small}
use Rattle.hc_exchange.proofs.Through.{blocks-through}
use Rattle.hc_exchange.proofs.Wrote.{IsPlain, other-after_it}
use Rattle.hc_exchange.proofs.lemmas.BlockNumbers.{fmmu-in-line, fmmu_line_block}
use Rattle.hc_exchange.proofs.lemmas.Chosen.{AreOfLine, outer-areas, range-written, unwritten-stays}
use Rattle.hc_exchange.proofs.lemmas.Listed.{areas-mapped}
use Rattle.hc_exchange.proofs.lemmas.Members.{stays-line}
use Rattle.hc_exchange.proofs.lemmas.Programmed.{all-own, all-plain}
use Rattle.hc_exchange.proofs.lemmas.Shared.{length-fmmu}
use Rattle.hc_exchange.proofs.lemmas.Sources.{IsOfLine, area-pair, line-sources}

-- the bit of a task that an area of the line pairs is of an area in the task

pub pair-in_task : (state : State) (task : ℕ) (member : Member) (i x m : ℕ) (area : Area) (mapping : Mapping) → IsConfigurable state → IsBitOfTask (line state) task x
    → IsMapped (line state) member i area mapping → IsAreaPair area mapping x m → IsTaskArea task member i area
pair-in_task state task member i x m area mapping can asked is pair =
    let members = line state in
    let logical : 8 * logical_address task asked.datagram + asked.bit ≡ 8 * mapping.address + mapping.bit + pair.k = sym asked.at ∙ pair.logical in
    let pairs : LinePairs members member.slave.station (8 * logical_address task asked.datagram + asked.bit) m = record {
      member = member;
      index = i;
      area = area;
      mapping = mapping;
      station_is = refl;
      is_mapped = is;
      pair = record { k = pair.k; below = pair.below; logical = logical; memory = pair.memory };
    } in
    let below = pair.below in
    record {
      in_record = is.in_record;
      in_task = task-answer_given state task asked.datagram asked.bit member.slave.station m can asked.there asked.below pairs;
      some_bits = omega arith;
    }

-- machines that have the task's blocks carry the task

task-blocks : (state : State) (task : ℕ) (member : Member) (memory : List ℕ) → IsConfigurable state → Contains (line state) member → HasTaskBlocks (line state) task member memory
    → CarriesAsked (IsBitOfTask (line state) task) (line state) member memory
task-blocks state task member memory can has own = record {
  size = own.size;
  own = λ i x m area mapping asked is pair.
      let in_task = pair-in_task state task member i x m area mapping can asked is pair in
      own.blocks i area in_task ∙ ap (λ (t : ℕ). fmmu_bytes area (mapping_of (line state) t (member_area_key member i area))) (sym in_task.in_task) ∙ ap (fmmu_bytes area) is.mapped;
  foreign = λ i x m low asked pair.
      let found = own.others i x m low asked pair in
      foreign-is i found.0 found.1;
  all_bytes = own.all_bytes;
}
  where
    foreign-is : (i : ℕ) (area : Area) → IsTaskArea task member i area
        → (found : Area) × (mapping : Mapping) × IsMapped (line state) member i found mapping × (fmmu_block_at memory i ≡ mapped_bytes found mapping)
    foreign-is i area is = elim (areas-mapped state member i area can has is.in_record) [
      | inl mapped ↦ (
        area,
        _,
        record { in_line = has; in_record = is.in_record; mapped = mapped.1.mapped },
        own.blocks i area is ∙ ap (λ (t : ℕ). fmmu_bytes area (mapping_of (line state) t (member_area_key member i area))) (sym is.in_task) ∙ ap (fmmu_bytes area) mapped.1.mapped,
      )
      | inr none ↦ let some = is.some_bits in let empty = none.0 in absurd (omega arith)
    ]

pub blocks-carry : TaskBlocksCarry
blocks-carry state task machines can are = record {
  count = are.count;
  each = λ k member memory is is'.
      task-blocks state task member memory can (k, slice_get_within (line state) k member is, get_or_from_slice_get (line state) k member member is) (are.each k member memory is is');
}

pub fresh-pass : FreshMachinesPass
fresh-pass line task member memory fresh = record {
  size = fresh.size;
  blocks = λ i area is. absurd (fresh.none i area is);
  others = λ i x m low asked pair. let never : true ≡ false = sym pair.active ∙ fresh.inactive i low in cc;
  all_bytes = fresh.all_bytes;
}

-- the writes of chosen blocks

chosen-of_line : (choice : LineBlock → Bool) (state : State) → IsConfigurable state → All (λ member. member.slave.station < 65536) (line state) → AreOfLine (line state) (chosen_blocks choice (line state))
chosen-of_line choice state can low =
    let members = line state in
    let blocks = line_blocks members in
    let stays = stays-line state can in
    record {
      plain = All-filter choice IsPlain blocks (all-plain members stays low);
      apart = AllPairs-filter OwnApart choice blocks (all-own members stays);
      inside = All-filter choice (Contains blocks) blocks (All-contains_itself blocks);
    }

-- the FMMU of an area of a slave that has its station address has its block if the block is chosen, else what it had

own-written : (state : State) (choice : LineBlock → Bool) (member : Member) (memory : List ℕ) (i : ℕ) (area : Area) → IsConfigurable state → Contains (line state) member
    → AreOfLine (line state) (chosen_blocks choice (line state)) → length memory ≡ 12288 → word_at memory 16 ≡ member.slave.station → slice_get member.slave.areas i ≡ Some area
    → choice (fmmu_line_block (line state) member i area) ≡ true
    → fmmu_block_at (blocks_after memory (chosen_blocks choice (line state))) i ≡ fmmu_bytes area (mapping_of (line state) area.task (member_area_key member i area))
own-written state choice member memory i area can has of_line long is found chosen =
    let members = line state in
    let block = fmmu_line_block members member i area in
    let at = 1536 + 16 * i in
    let there = contains-unchanged choice (line_blocks members) block (fmmu-in-line members member i area has found) chosen in
    ap (λ (n : ℕ). slice_range (blocks_after memory (chosen_blocks choice members)) at (at + n)) (sym (length-fmmu area (mapping_of members area.task (member_area_key member i area))))
    ∙ range-written members memory (chosen_blocks choice members) block long is of_line there

own-unwritten : (state : State) (choice : LineBlock → Bool) (member : Member) (memory : List ℕ) (i : ℕ) (area : Area) → IsConfigurable state → Contains (line state) member
    → AreOfLine (line state) (chosen_blocks choice (line state)) → IsPlain (fmmu_line_block (line state) member i area) → length memory ≡ 12288 → word_at memory 16 ≡ member.slave.station
    → slice_get member.slave.areas i ≡ Some area → choice (fmmu_line_block (line state) member i area) ≡ false
    → fmmu_block_at (blocks_after memory (chosen_blocks choice (line state))) i ≡ fmmu_block_at memory i
own-unwritten state choice member memory i area can has of_line plain long is found unchosen =
    let members = line state in
    let block = fmmu_line_block members member i area in
    let at = 1536 + 16 * i in
    let size = length-fmmu area (mapping_of members area.task (member_area_key member i area)) in
    ap (λ (n : ℕ). slice_range (blocks_after memory (chosen_blocks choice members)) at (at + n)) (sym size)
    ∙ unwritten-stays state memory (chosen_blocks choice members) block can of_line (fmmu-in-line members member i area has found) plain long is
    (λ other there one. let never : true ≡ false = sym (contains-unkept choice (line_blocks members) other there).1 ∙ ap choice one ∙ unchosen in cc)
    ∙ ap (λ (n : ℕ). slice_range memory at (at + n)) size

-- a slave with its station address

own-after : (state : State) (task : ℕ) (choice : LineBlock → Bool) (member : Member) (memory : List ℕ) → IsConfigurable state → All (λ member. member.slave.station < 65536) (line state)
    → ChoosesTask choice (line state) task → Contains (line state) member → IsBeforeTask (line state) task member memory → word_at memory 16 ≡ member.slave.station
    → HasTaskBlocks (line state) task member (blocks_after memory (chosen_blocks choice (line state)))
own-after state task choice member memory can low chooses has before is =
    let members = line state in
    let blocks = chosen_blocks choice members in
    let of_line = chosen-of_line choice state can low in
    let stays = blocks-stay memory member.slave.station blocks before.size is of_line.plain in
    record {
      size = stays.size;
      blocks = λ i area own.
          own-written state choice member memory i area can has of_line before.size is own.in_record
          (chooses (fmmu_line_block members member i area) member i area (fmmu-in-line members member i area has own.in_record) refl refl own)
          ∙ ap (λ (t : ℕ). fmmu_bytes area (mapping_of members t (member_area_key member i area))) own.in_task;
      others = λ i x m below asked pair. other i x m below asked pair (slice_get_cases member.slave.areas i).1;
      all_bytes = memory-small memory blocks before.size of_line.plain before.all_bytes (All-filter choice (λ (block : LineBlock). All IsByte block.block.bytes) (line_blocks members) (blocks-small members));
    }
  where
    members' : List Member
    members' = line state

    of-area : (i x m : ℕ) (area : Area) → slice_get member.slave.areas i ≡ Some area → IsBitOfTask members' task x
        → IsPair (fmmu_bytes area (mapping_of members' area.task (member_area_key member i area))) x m → (area : Area) × IsTaskArea task member i area
    of-area i x m area found asked pair =
        let answer_given = area-pair members' member i area x m (stays-line state can) has found pair in
        (area, pair-in_task state task member i x m area answer_given.0 can asked (record { in_line = has; in_record = found; mapped = answer_given.1 }) answer_given.2)

    in-record : (i x m : ℕ) (area : Area) → i < 16 → slice_get member.slave.areas i ≡ Some area → IsBitOfTask members' task x
        → IsPair (fmmu_block_at (blocks_after memory (chosen_blocks choice members')) i) x m → (area : Area) × IsTaskArea task member i area
    in-record i x m area below found asked pair =
        let of_line = chosen-of_line choice state can low in
        by_bool (choice (fmmu_line_block members' member i area))
        (λ t. of-area i x m area found asked (subst (λ (block : List ℕ). IsPair block x m) (own-written state choice member memory i area can has of_line before.size is found t) pair))
        (λ t. before.others i x m below asked
        (subst (λ (block : List ℕ). IsPair block x m)
        (own-unwritten state choice member memory i area can has of_line
        (All-contains IsPlain (line_blocks members') (fmmu_line_block members' member i area) (all-plain members' (stays-line state can) low) (fmmu-in-line members' member i area has found)) before.size is found t) pair))

    other : (i x m : ℕ) → i < 16 → IsBitOfTask members' task x → IsPair (fmmu_block_at (blocks_after memory (chosen_blocks choice members')) i) x m
        → ((area : Area) × (i < length member.slave.areas) × (slice_get member.slave.areas i ≡ Some area) × (get_or member.slave.areas i area ≡ area)) ⊎ ((length member.slave.areas ≤ i) × (slice_get member.slave.areas i ≡ None))
        → (area : Area) × IsTaskArea task member i area
    other i x m below asked pair (inl found) = in-record i x m found.0 below found.2 asked pair
    other i x m below asked pair (inr outer) =
        before.others i x m below asked
        (subst (λ (block : List ℕ). IsPair block x m)
        (outer-areas state member memory (chosen_blocks choice members') i can (chosen-of_line choice state can low) has before.size is outer.0 below) pair)

-- a machine that has no address of the line passes the writes

none-after : (line : List Member) (memory : List ℕ) (blocks : List LineBlock) → All IsPlain blocks → All (λ block. word_at memory 16 ≢ block.station) blocks → blocks_after memory blocks ≡ memory
none-after line memory [] plain other = refl
none-after line memory (block ∷ blocks) plain other =
    let first = other-after_it memory block (All-head IsPlain block blocks plain) (All-head (λ (b : LineBlock). word_at memory 16 ≢ b.station) block blocks other) in
    ap (λ (m : List ℕ). blocks_after m blocks) first
    ∙ none-after line memory blocks (All-tail IsPlain block blocks plain) (All-tail (λ (b : LineBlock). word_at memory 16 ≢ b.station) block blocks other)

passed-after : (state : State) (task : ℕ) (choice : LineBlock → Bool) (member : Member) (memory : List ℕ) → IsConfigurable state → All (λ member. member.slave.station < 65536) (line state)
    → IsBeforeTask (line state) task member memory → ((other : Member) → Contains (line state) other → word_at memory 16 ≢ other.slave.station) → ((i : ℕ) (area : Area) → ¬ IsTaskArea task member i area)
    → HasTaskBlocks (line state) task member (blocks_after memory (chosen_blocks choice (line state)))
passed-after state task choice member memory can low before other none =
    let members = line state in
    let blocks = chosen_blocks choice members in
    let of_line = chosen-of_line choice state can low in
    let same =
    none-after members memory blocks of_line.plain
    (λ k d within one.
    let own = All-contains (IsOfLine members) (line_blocks members) (slice_index_or blocks k d) (line-sources members) (of_line.inside k d within) in
    other own.member own.in_line (one ∙ own.of_member.station_is)) in
    subst (HasTaskBlocks members task member) (sym same)
    (record { size = before.size; blocks = λ i area own. absurd (none i area own); others = before.others; all_bytes = before.all_bytes })

pub writing-carries : WritingCarriesTheTask
writing-carries state task serial choice machines can low chooses before few =
    let members = line state in
    let blocks = chosen_blocks choice members in
    let of_line = chosen-of_line choice state can low in
    let through = blocks-through blocks machines serial few of_line.plain sizes in
    blocks-carry state task (machines_after machines (write_frames serial blocks)) can
    (record {
      count = ap length through ∙ length-map machines (λ (m : List ℕ). blocks_after m blocks) ∙ before.count;
      each = λ k member memory is is'. after-at k member memory is (slice_get_cases machines k).1 (sym (slice_get-map (λ m. blocks_after m blocks) machines k) ∙ ap (λ (ms : List (List ℕ)). slice_get ms k) (sym through) ∙ is');
    })
  where
    sizes : All (λ m. length m ≡ 12288) machines
    sizes k d within =
        by (slice_get_cases (line state) k).1
      where
        by : ((member : Member) × (k < length (line state)) × (slice_get (line state) k ≡ Some member) × (get_or (line state) k member ≡ member)) ⊎ ((length (line state) ≤ k) × (slice_get (line state) k ≡ None))
            → length (slice_index_or machines k d) ≡ 12288
        by (inl found) = (before.each k found.0 (slice_index_or machines k d) found.2 (slice_get-get_or machines k d within)).size
        by (inr outer) = let count = before.count in let beyond = outer.0 in absurd (omega arith)

    after-at : (k : ℕ) (member : Member) (memory' : List ℕ) → slice_get (line state) k ≡ Some member
        → ((memory : List ℕ) × (k < length machines) × (slice_get machines k ≡ Some memory) × (get_or machines k memory ≡ memory)) ⊎ ((length machines ≤ k) × (slice_get machines k ≡ None))
        → option_map (λ m. blocks_after m (chosen_blocks choice (line state))) (slice_get machines k) ≡ Some memory'
        → HasTaskBlocks (line state) task member memory'
    after-at k member memory' is (inr outer) made =
        let count = before.count in
        let beyond = outer.0 in
        let within = slice_get_within (line state) k member is in
        absurd (omega arith)
    after-at k member memory' is (inl found) made =
        let members = line state in
        let memory = found.0 in
        let has : Contains members member = (k, slice_get_within members k member is, get_or_from_slice_get members k member member is) in
        let own = before.each k member memory is found.2 in
        let equal : Some (blocks_after memory (chosen_blocks choice members)) ≡ Some memory' = ap (option_map (λ m. blocks_after m (chosen_blocks choice members))) (sym found.2) ∙ made in
        let same : blocks_after memory (chosen_blocks choice members) ≡ memory' = cc in
        subst (HasTaskBlocks members task member) same
        (elim own.station [
          | inl station ↦ own-after state task choice member memory can low chooses has own station
          | inr other ↦ passed-after state task choice member memory can low own other.0 other.1
        ])
