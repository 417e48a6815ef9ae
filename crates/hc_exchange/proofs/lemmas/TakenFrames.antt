-- Frames of a record keep what the machines of a wire hold of it: frames of tasks, of register writes, and their answers.
use Rattle.std.proofs.Common.{◌≡◌, ℕ, ◌+◌, ◌*◌, ◌^◌, ◌<◌, ◌≤◌, ◌==◌, ◌&&◌, not, ◌⊎◌, ◌∙◌, inl, inr, Bool, true, false, cond, List, [], ◌∷◌, drop, length, get_or, map, take, refl, sym, ap, subst, arith, Option, Some, None}
use Rattle.std.specs.Prelude.{All, Contains, is_some, option_and_then, option_map, slice_get, slice_index_or, slice_range}
use Rattle.std.specs.Option.{option_map_or, option_or}
use Rattle.std.specs.List.{AllZip, list_any}
use Rattle.std.specs.Str.{bytes_eq}
use Rattle.std.proofs.lemmas.Bool.{and_from, and_parts, eqb-true, or_left, or_right}
use Rattle.std.proofs.lemmas.List.Elements.{All-contains, All-weaker}
use Rattle.std.proofs.lemmas.Option.{get_or_from_slice_get, slice_get-get_or, slice_get_cases, slice_get_within}
use Rattle.hc_records.specs.declared.records.Area.{Area}
use Rattle.hc_records.specs.Line.{Member, line}
use Rattle.hc_records.proofs.lemmas.Choices.{by_bool, contains-first, contains-later, member-by}
use Rattle.hc_registers.specs.Blocks.{LineBlock, line_blocks, mapping_of, member_blocks}
use Rattle.hc_frames.specs.Arrived.{word_at}
use Rattle.hc_frames.specs.FrameText.{frame_text}
use Rattle.hc_events.specs.Accepted.{AreAccepted, IsFrame, IsWrite}
use Rattle.hc_events.specs.Answering.{judged_by}
use Rattle.hc_events.specs.Arrivals.{Arrival}
use Rattle.hc_events.specs.Entries.{History, Sent, Wrote, Came}
use Rattle.hc_events.specs.Heads.{Block}
use Rattle.hc_events.specs.Holding.{MayHold, held_after_answer, held_after_write, may_hold}
use Rattle.hc_events.specs.Owed.{block_among, confirms, if_confirmed, is_owed, known_bytes, last_write, owed_blocks, was_confirmed, write_of}
use Rattle.hc_events.specs.Points.{line_of, next_serial, state_of}
use Rattle.hc_events.specs.Ready.{is_fmmu, may_name, names_among, serves_task}
use Rattle.hc_events.specs.Sendings.{Named}
use Rattle.hc_events.proofs.lemmas.Confirmed.{confirmed-last}
use Rattle.hc_events.proofs.lemmas.Holding.{known-held}
use Rattle.hc_plan.proofs.lemmas.Elements.{contains-joined, contains-unchanged}
use Rattle.hc_machine.specs.Fmmus.{fmmu_block_at}
use Rattle.hc_segment.specs.Line.{machines_after_frame}
use Rattle.hc_exchange.specs.Holding.{HoldsContents, IsOutsider, IsRecord, MayHoldBytes}
use Rattle.hc_exchange.specs.PairLaws.{IsConfigurable}
use Rattle.hc_exchange.specs.Pairs.{member_area_key}
use Rattle.hc_exchange.specs.Runs.{ArrivalComesBack, PassesFront, TakenWritesAreHeld, TakesWrites, TakeWrites, entry_frame, after_front}
use Rattle.hc_exchange.specs.Wire.{WireMachine, line_machines, outside_machines, wire_machines}
use Rattle.hc_exchange.proofs.Blocks.{blocks-stay, blocks_after}
use Rattle.hc_exchange.proofs.Passing.{wire-sizes}
use Rattle.hc_exchange.proofs.Small.{IsByte, blocks-small, memory-small}
use Rattle.hc_exchange.proofs.Through.{blocks-through}
use Rattle.hc_exchange.proofs.Together.{joint-alike}
use Rattle.hc_exchange.proofs.Wrote.{IsPlain}
use Rattle.hc_exchange.proofs.lemmas.BlockNumbers.{fmmu-in-line, fmmu-of_member, fmmu_line_block}
use Rattle.hc_exchange.proofs.lemmas.Chosen.{AreOfLine, among-none, among-written, outer-areas}
use Rattle.hc_exchange.proofs.lemmas.Contents.{record-sound}
use Rattle.hc_exchange.proofs.lemmas.Frame.{addressed, addressed-text, frame-carried, frame-some, writes-carried, writes-few, writes-of_line}
use Rattle.hc_exchange.proofs.lemmas.Fronts.{all-take, drop-none, line-zip, logical-front, zip-at, zip-front, zip-length, zip-map, zip-same}
use Rattle.hc_exchange.proofs.lemmas.Members.{stays-line}
use Rattle.hc_exchange.proofs.lemmas.Programmed.{all-plain}
use Rattle.hc_exchange.proofs.lemmas.ReadyTasks.{not-concerned, odd-is, slave-at}
use Rattle.hc_exchange.proofs.lemmas.Registers.{KeptByLogical, held-high, logical-itself, logical-keeps, takes-same}
use Rattle.hc_exchange.proofs.lemmas.Shared.{length-fmmu}
use Rattle.hc_exchange.proofs.lemmas.Sources.{IsOfMember, member-sources}

-- what is known was taken

known-taken : (passed : ℕ → Bool) (history : History) (station number : ℕ) (bytes : List ℕ) (last : Option (ℕ × List ℕ)) → last_write history station number ≡ last
    → ((serial : ℕ) → was_confirmed history serial (Block station number) ≡ true → passed serial ≡ true) → option_and_then (if_confirmed history (Block station number)) last ≡ Some bytes
    → (write : ℕ × List ℕ) × (last_write history station number ≡ Some write) × (passed write.0 ≡ true) × (write.1 ≡ bytes)
known-taken passed history station number bytes None is answered known = cc
known-taken passed history station number bytes (Some write) is answered known =
    by_bool (was_confirmed history write.0 (Block station number))
    (λ t.
    let same : Some write.1 ≡ Some bytes = sym (ap (λ b. cond b (Some write.1) None) t) ∙ known in
    let one : write.1 ≡ bytes = cc in
    (write, is, answered write.0 t, one))
    (λ t. let never : None ≡ Some bytes = sym (ap (λ b. cond b (Some write.1) None) t) ∙ known in cc)

pub taken-held : TakenWritesAreHeld
taken-held passed history wire takes = record {
  count = takes.count;
  each = λ k member memory is is'.
      let own = takes.each k member memory is is' in
      record {
        machine = own.machine;
        all_bytes = own.all_bytes;
        known = λ block bytes has known.
            let write = known-taken passed history block.station block.number bytes (last_write history block.station block.number) refl (λ serial. takes.answered serial block.station block.number) known in
            own.taken block write.0 has write.1 write.2 ∙ write.3;
        held = own.held;
      };
  outside = takes.outside;
}

-- the slaves of a line and their machines

pub has-at : (line : List Member) (k : ℕ) (member : Member) → slice_get line k ≡ Some member → Contains line member
has-at line k member is = (k, slice_get_within line k member is, get_or_from_slice_get line k member member is)

pub machine-for : (passed : ℕ → Bool) (history : History) (wire : List WireMachine) (k : ℕ) (member : Member) → TakeWrites passed history wire → slice_get (line_of history) k ≡ Some member
    → (memory : List ℕ) × (slice_get (line_machines wire) k ≡ Some memory) × TakesWrites passed history member memory
machine-for passed history wire k member takes is =
    let within = slice_get_within (line_of history) k member is in
    let count = takes.count in
    let memory = get_or (line_machines wire) k [] in
    let there = slice_get-get_or (line_machines wire) k [] (omega arith) in
    (memory, there, takes.each k member memory is there)

addresses : (passed : ℕ → Bool) (history : History) (wire : List WireMachine) → TakeWrites passed history wire → All (λ member. member.slave.station < 65536) (line_of history)
addresses passed history wire takes k d within =
    let member = slice_index_or (line_of history) k d in
    (machine-for passed history wire k member takes (slice_get-get_or (line_of history) k d within)).2.machine.address

sizes : (passed : ℕ → Bool) (history : History) (wire : List WireMachine) → TakeWrites passed history wire → All (λ m. length m ≡ 12288) (wire_machines wire)
sizes passed history wire takes =
    wire-sizes wire line-sizes (All-weaker (IsOutsider history) (λ m. length m ≡ 12288) (λ m own. own.size) (outside_machines wire) takes.outside)
  where
    line-sizes : All (λ m. length m ≡ 12288) (line_machines wire)
    line-sizes k d within =
        let count = takes.count in
        let low : k < length (line_of history) = omega arith in
        by (slice_get_cases (line_of history) k).1 low
      where
        by : ((member : Member) × (k < length (line_of history)) × (slice_get (line_of history) k ≡ Some member) × (get_or (line_of history) k member ≡ member)) ⊎ ((length (line_of history) ≤ k) × (slice_get (line_of history) k ≡ None))
            → k < length (line_of history) → length (slice_index_or (line_machines wire) k d) ≡ 12288
        by (inl found) low = (takes.each k found.0 (slice_index_or (line_machines wire) k d) found.2 (slice_get-get_or (line_machines wire) k d within)).machine.size
        by (inr outer) low = let beyond = outer.0 in absurd (omega arith)

-- the machines after an entry, from those before it, place by place

after-zip : (R : List ℕ → List ℕ → Type 0) (passed : ℕ → Bool) (history next : History) (wire wire' : List WireMachine) → line_of next ≡ line_of history → TakeWrites passed history wire
    → AllZip R (line_machines wire) (line_machines wire')
    → ((member : Member) (memory memory' : List ℕ) → Contains (line_of history) member → TakesWrites passed history member memory → R memory memory' → TakesWrites passed next member memory')
    → All (IsOutsider next) (outside_machines wire') → ((serial station number : ℕ) → was_confirmed next serial (Block station number) ≡ true → passed serial ≡ true) → TakeWrites passed next wire'
after-zip R passed history next wire wire' same takes zip each outside answered = record {
  count = zip-length R (line_machines wire) (line_machines wire') zip ∙ takes.count ∙ ap length (sym same);
  each = λ k member memory' is is'.
      let found = zip-at R (line_machines wire) (line_machines wire') k memory' zip is' in
      let there : slice_get (line_of history) k ≡ Some member = ap (λ (ms : List Member). slice_get ms k) (sym same) ∙ is in
      each member found.0 memory' (has-at (line_of history) k member there) (takes.each k member found.0 there found.1) found.2;
  outside = outside;
  answered = answered;
}

-- an entry that changes no machine of the line, and nothing that is said of a register
pub same-line : (passed : ℕ → Bool) (history next : History) (wire wire' : List WireMachine) → line_of next ≡ line_of history → TakeWrites passed history wire → line_machines wire' ≡ line_machines wire
    → ((member : Member) (memory : List ℕ) → TakesWrites passed history member memory → TakesWrites passed next member memory) → All (IsOutsider next) (outside_machines wire')
    → ((serial station number : ℕ) → was_confirmed next serial (Block station number) ≡ true → passed serial ≡ true) → TakeWrites passed next wire'
same-line passed history next wire wire' same takes line_is each outside answered =
    after-zip (λ m m'. m' ≡ m) passed history next wire wire' same takes
    (subst (AllZip (λ m m'. m' ≡ m) (line_machines wire)) (sym line_is) (zip-same (λ m m'. m' ≡ m) (line_machines wire) (λ m. refl)))
    (λ member memory memory' has own one. subst (TakesWrites passed next member) (sym one) (each member memory own)) outside answered

-- a frame of tasks

-- the FMMU block of an area whose register is unknown is owed
owed-if : (history : History) (block : LineBlock) (known : Option (List ℕ)) → known_bytes history block.station block.number ≡ known
    → ((bytes : List ℕ) → known_bytes history block.station block.number ≡ Some bytes → ⊥) → not (option_map_or (bytes_eq block.block.bytes) known false) ≡ true
owed-if history block None is never = refl
owed-if history block (Some bytes) is never = absurd (never bytes is)

unknown-owed : (history : History) (member : Member) (index : ℕ) (area : Area) → AreAccepted history → IsConfigurable (state_of history) → Contains (line_of history) member
    → (may_hold history member.slave.station (2 * index + 1)).unknown ≡ true → is_owed history (fmmu_line_block (line_of history) member index area) ≡ true
unknown-owed history member index area accepted can has unknown =
    let block = fmmu_line_block (line_of history) member index area in
    owed-if history block (known_bytes history member.slave.station (2 * index + 1)) refl
    (λ bytes known.
    let held = known-held history member.slave.station (2 * index + 1) bytes accepted (ap is_some (slave-at (state_of history) member can has)) known in
    let never : true ≡ false = sym unknown ∙ ap (λ (h : MayHold). h.unknown) held in
    cc)

-- so of a slave of the line nothing is unknown while nothing is owed, or a task is ready

nothing-owed : (history : History) (block : LineBlock) → Contains (line_blocks (line_of history)) block → is_owed history block ≡ true → owed_blocks history ≡ [] → ⊥
nothing-owed history block has owed none =
    let there : Contains [] block = subst (λ (blocks : List LineBlock). Contains blocks block) none (contains-unchanged (is_owed history) (line_blocks (line_of history)) block has owed) in
    let low : there.0 < 0 = there.1 in
    absurd (omega arith)

never-unknown : (history : History) (frame : List Named) (member : Member) (index : ℕ) (area : Area) → AreAccepted history → IsConfigurable (state_of history) → IsFrame history frame
    → Contains (line_of history) member → slice_get member.slave.areas index ≡ Some area → (may_hold history member.slave.station (2 * index + 1)).unknown ≡ true → ⊥
never-unknown history frame member index area accepted can is_frame has found unknown =
    let members = line_of history in
    let block = fmmu_line_block members member index area in
    let held = may_hold history member.slave.station (2 * index + 1) in
    let there = fmmu-in-line members member index area has found in
    let owed = unknown-owed history member index area accepted can has unknown in
    elim is_frame.programmed [
      | inl none ↦ nothing-owed history block there owed none
      | inr ready ↦
          let first : Named = slice_index_or frame 0 (0, 0) in
          not-concerned history first.0 block (ready 0 (0, 0) (frame-some history frame can is_frame)) there owed
          (or_right (serves_task (state_of history) first.0 block) (may_name first.0 (2 * index + 1) held)
          (and_from (is_fmmu (2 * index + 1)) _ (odd-is index) (or_left held.unknown (names_among first.0 held) unknown)))
    ]

nothing-unknown : (history : History) (frame : List Named) (member : Member) (index : ℕ) → AreAccepted history → IsConfigurable (state_of history) → IsFrame history frame → Contains (line_of history) member
    → index < length member.slave.areas → (may_hold history member.slave.station (2 * index + 1)).unknown ≡ false
nothing-unknown history frame member index accepted can is_frame has low =
    by_bool (may_hold history member.slave.station (2 * index + 1)).unknown
    (λ unknown. elim (slice_get_cases member.slave.areas index).1 [
      | inl found ↦ absurd (never-unknown history frame member index found.0 accepted can is_frame has found.2 unknown)
      | inr outer ↦ let beyond = outer.0 in absurd (omega arith)
    ])
    (λ free. free)

sent-zip : (passed : ℕ → Bool) (history : History) (frame : List Named) (wire wire' : List WireMachine) → next_serial history < 2 ^ 40 → IsConfigurable (state_of history) → IsFrame history frame
    → TakeWrites passed history wire → PassesFront passed history (Sent frame) wire wire' → AllZip KeptByLogical (line_machines wire) (line_machines wire')
sent-zip passed history frame wire wire' low can is_frame takes passes =
    let serial = next_serial history in
    let ds = map (addressed history) frame in
    let machines = wire_machines wire in
    let zip =
    logical-front KeptByLogical passes.front serial machines ds (sizes passed history wire takes) (frame-carried history frame serial low can is_frame)
    (λ d m x bytes has long before. logical-keeps m x bytes (8 * d.address) before) logical-itself in
    let texts : AllZip KeptByLogical machines (after_front passes.front (entry_frame history (Sent frame)) machines) =
    subst (λ datagrams. AllZip KeptByLogical machines (after_front passes.front (frame_text serial datagrams) machines)) (addressed-text history frame) zip in
    subst (AllZip KeptByLogical (line_machines wire)) (sym passes.line_is) (line-zip KeptByLogical wire (after_front passes.front (entry_frame history (Sent frame)) machines) texts)

pub sent-keeps : (passed : ℕ → Bool) (history : History) (frame : List Named) (wire wire' : List WireMachine) → IsRecord (Sent frame ∷ history) → IsRecord history → TakeWrites passed history wire
    → PassesFront passed history (Sent frame) wire wire' → All (IsOutsider (Sent frame ∷ history)) (outside_machines wire') → TakeWrites passed (Sent frame ∷ history) wire'
sent-keeps passed history frame wire wire' of_record before takes passes outside =
    let sound = record-sound history before in
    let is_frame = of_record.reachable.accepted.0 in
    let few : next_serial history + 1 ≤ 1099511627775 = of_record.reachable.few in
    after-zip KeptByLogical passed history (Sent frame ∷ history) wire wire' refl takes (sent-zip passed history frame wire wire' (omega arith) sound.can is_frame takes passes)
    (λ member memory memory' has own left_so.
    let high = held-high passed history member memory sound own (λ index low. nothing-unknown history frame member index before.reachable.accepted sound.can is_frame has low) in
    let after_it = takes-same passed history member memory memory' (stays-line (state_of history) sound.can) has own (left_so high own.machine.size own.all_bytes) in
    record { machine = after_it.machine; all_bytes = after_it.all_bytes; taken = after_it.taken; held = after_it.held })
    outside takes.answered

-- a frame of register writes

abbrev IsServed : (ℕ → Bool) → ℕ → List LineBlock → List ℕ → List ℕ → Type 0
IsServed passed serial blocks m m' = (m' ≡ blocks_after m blocks) ⊎ ((m' ≡ m) × (passed serial ≡ false))

wrote-zip : (passed : ℕ → Bool) (history : History) (blocks : List LineBlock) (wire wire' : List WireMachine) → next_serial history < 2 ^ 40 → All IsPlain blocks → IsWrite history blocks
    → TakeWrites passed history wire → PassesFront passed history (Wrote blocks) wire wire' → AllZip (IsServed passed (next_serial history) blocks) (line_machines wire) (line_machines wire')
wrote-zip passed history blocks wire wire' low plain accepted takes passes =
    let serial = next_serial history in
    let R = IsServed passed serial blocks in
    let machines = wire_machines wire in
    let n = passes.front in
    let long = all-take (λ m. length m ≡ 12288) n machines (sizes passed history wire takes) in
    let through =
    joint-alike (take n machines) serial 0 blocks long (writes-carried history blocks serial low plain accepted) (writes-few history blocks accepted)
    ∙ blocks-through blocks (take n machines) 0 (writes-few history blocks accepted) plain long in
    let rest : AllZip R (drop n machines) (drop n machines) =
    by_bool (passed serial)
    (λ t. subst (λ (ms : List (List ℕ)). AllZip R ms ms) (sym (drop-none n machines (passes.whole t))) tt)
    (λ t. zip-same R (drop n machines) (λ m. inr (refl, t))) in
    let all : AllZip R machines (after_front n (entry_frame history (Wrote blocks)) machines) =
    zip-front R n machines (machines_after_frame (take n machines) (entry_frame history (Wrote blocks))) (drop n machines)
    (subst (AllZip R (take n machines)) (sym through) (zip-map R (λ m. blocks_after m blocks) (take n machines) (λ m. inl refl))) rest in
    subst (AllZip R (line_machines wire)) (sym passes.line_is) (line-zip R wire (after_front n (entry_frame history (Wrote blocks)) machines) all)

-- a slave whose machine the frame passed

module _ (passed : ℕ → Bool) (history : History) (blocks : List LineBlock) (member : Member) (memory : List ℕ) (can : IsConfigurable (state_of history)) (of_line : AreOfLine (line_of history) blocks)
    (low : All (λ member. member.slave.station < 65536) (line_of history)) (has : Contains (line_of history) member) (own : TakesWrites passed history member memory) where
  in-line_block : (block : LineBlock) → Contains (member_blocks (line_of history) member) block → Contains (line_blocks (line_of history)) block
  in-line_block block there = contains-joined (member_blocks (line_of history)) (line_of history) member block has there

  is-plain : (block : LineBlock) → Contains (member_blocks (line_of history) member) block → IsPlain block
  is-plain block there =
      All-contains IsPlain (line_blocks (line_of history)) block (all-plain (line_of history) (stays-line (state_of history) can) low) (in-line_block block there)

  station-of : (block : LineBlock) → Contains (member_blocks (line_of history) member) block → word_at memory 16 ≡ block.station
  station-of block there =
      own.machine.programmable.station ∙ sym (All-contains (IsOfMember (line_of history) member) (member_blocks (line_of history) member) block (member-sources (line_of history) member) there).station_is

  taken-yes : (block : LineBlock) (write : ℕ × List ℕ) (found : Option LineBlock) → Contains (member_blocks (line_of history) member) block → block_among block.station block.number blocks ≡ found
      → option_or (option_map (write_of (next_serial history)) found) (last_write history block.station block.number) ≡ Some write → passed write.0 ≡ true
      → slice_range (blocks_after memory blocks) block.block.register (block.block.register + length block.block.bytes) ≡ write.1
  taken-yes block write None there among last whole =
      among-none (state_of history) memory blocks block can of_line (in-line_block block there) (is-plain block there) own.machine.size (station-of block there) among
      ∙ own.taken block write there last whole
  taken-yes block write (Some other) there among last whole =
      let written = among-written (state_of history) memory blocks block other can of_line (in-line_block block there) own.machine.size (station-of block there) among in
      let same : write_of (next_serial history) other ≡ write = cc in
      written.1 ∙ ap (λ (b : LineBlock). b.block.bytes) (sym written.0) ∙ ap (λ (w : ℕ × List ℕ). w.1) same

  fmmu-range : (index : ℕ) (area : Area) (memory' : List ℕ) → fmmu_block_at memory' index
      ≡ slice_range memory' (1536 + 16 * index) (1536 + 16 * index + length (fmmu_line_block (line_of history) member index area).block.bytes)
  fmmu-range index area memory' =
      ap (λ (n : ℕ). slice_range memory' (1536 + 16 * index) (1536 + 16 * index + n)) (sym (length-fmmu area (mapping_of (line_of history) area.task (member_area_key member index area))))

  held-yes : (index : ℕ) (area : Area) (found : Option LineBlock) → slice_get member.slave.areas index ≡ Some area → block_among member.slave.station (2 * index + 1) blocks ≡ found
      → index < length member.slave.areas → MayHoldBytes (held_after_write found (may_hold history member.slave.station (2 * index + 1))) (fmmu_block_at (blocks_after memory blocks) index)
  held-yes index area None there among within known =
      let block = fmmu_line_block (line_of history) member index area in
      let in_member = fmmu-of_member (line_of history) member index area has there in
      let same =
      fmmu-range index area (blocks_after memory blocks)
      ∙ among-none (state_of history) memory blocks block can of_line (in-line_block block in_member) (is-plain block in_member) own.machine.size (station-of block in_member) among
      ∙ sym (fmmu-range index area memory) in
      subst (HoldsContents (may_hold history member.slave.station (2 * index + 1))) (sym same) (own.held index within known)
  held-yes index area (Some other) there among within known =
      let block = fmmu_line_block (line_of history) member index area in
      let in_member = fmmu-of_member (line_of history) member index area has there in
      let held = may_hold history member.slave.station (2 * index + 1) in
      let written = among-written (state_of history) memory blocks block other can of_line (in-line_block block in_member) own.machine.size (station-of block in_member) among in
      let same = fmmu-range index area (blocks_after memory blocks) ∙ written.1 ∙ ap (λ (b : LineBlock). b.block.bytes) (sym written.0) in
      inr (subst (Contains (other.block.bytes ∷ held.contents)) (sym same) (contains-first other.block.bytes held.contents))

  wrote-yes : TakesWrites passed (Wrote blocks ∷ history) member (blocks_after memory blocks)
  wrote-yes =
      let stays = blocks-stay memory member.slave.station blocks own.machine.size own.machine.programmable.station of_line.plain in
      record {
        machine = record {
          size = stays.size;
          address = own.machine.address;
          programmable = record {
            station = stays.station_is;
            unused = λ i outer under. outer-areas (state_of history) member memory blocks i can of_line has own.machine.size own.machine.programmable.station outer under ∙ own.machine.programmable.unused i outer under;
          };
        };
        all_bytes = memory-small memory blocks own.machine.size of_line.plain own.all_bytes
            (All-weaker (Contains (line_blocks (line_of history))) (λ (b : LineBlock). All IsByte b.block.bytes)
            (λ b there. All-contains (λ (b : LineBlock). All IsByte b.block.bytes) (line_blocks (line_of history)) b (blocks-small (line_of history)) there) blocks of_line.inside);
        taken = λ block write there last whole. taken-yes block write (block_among block.station block.number blocks) there refl last whole;
        held = λ index within. by-area index within (slice_get_cases member.slave.areas index).1;
      }
    where
      by-area : (index : ℕ) → index < length member.slave.areas
          → ((area : Area) × (index < length member.slave.areas) × (slice_get member.slave.areas index ≡ Some area) × (get_or member.slave.areas index area ≡ area)) ⊎ ((length member.slave.areas ≤ index) × (slice_get member.slave.areas index ≡ None))
          → MayHoldBytes (may_hold (Wrote blocks ∷ history) member.slave.station (2 * index + 1)) (fmmu_block_at (blocks_after memory blocks) index)
      by-area index within (inl found) = held-yes index found.0 (block_among member.slave.station (2 * index + 1) blocks) found.2 refl within
      by-area index within (inr outer) = let beyond = outer.0 in absurd (omega arith)

-- and one that the frame did not reach

missed-taken : (passed : ℕ → Bool) (history : History) (block : LineBlock) (write : ℕ × List ℕ) (found : Option LineBlock) (range : List ℕ) → passed (next_serial history) ≡ false
    → (last_write history block.station block.number ≡ Some write → passed write.0 ≡ true → range ≡ write.1)
    → option_or (option_map (write_of (next_serial history)) found) (last_write history block.station block.number) ≡ Some write → passed write.0 ≡ true → range ≡ write.1
missed-taken passed history block write None range missed before last whole = before last whole
missed-taken passed history block write (Some other) range missed before last whole =
    let same : write_of (next_serial history) other ≡ write = cc in
    let never : true ≡ false = sym whole ∙ ap (λ (w : ℕ × List ℕ). passed w.0) (sym same) ∙ missed in
    cc

missed-held : (found : Option LineBlock) (held : MayHold) (bytes : List ℕ) → MayHoldBytes held bytes → MayHoldBytes (held_after_write found held) bytes
missed-held None held bytes before known = before known
missed-held (Some other) held bytes before known = elim (before known) [
  | inl zeros ↦ inl zeros
  | inr there ↦ inr (contains-later other.block.bytes bytes held.contents there)
]

wrote-no : (passed : ℕ → Bool) (history : History) (blocks : List LineBlock) (member : Member) (memory : List ℕ) → passed (next_serial history) ≡ false → TakesWrites passed history member memory
    → TakesWrites passed (Wrote blocks ∷ history) member memory
wrote-no passed history blocks member memory missed own = record {
  machine = own.machine;
  all_bytes = own.all_bytes;
  taken = λ block write there last whole.
      missed-taken passed history block write (block_among block.station block.number blocks) (slice_range memory block.block.register (block.block.register + length block.block.bytes)) missed
      (own.taken block write there) last whole;
  held = λ index within. missed-held (block_among member.slave.station (2 * index + 1) blocks) (may_hold history member.slave.station (2 * index + 1)) (fmmu_block_at memory index) (own.held index within);
}

pub wrote-keeps : (passed : ℕ → Bool) (history : History) (blocks : List LineBlock) (wire wire' : List WireMachine) → IsRecord (Wrote blocks ∷ history) → IsRecord history → TakeWrites passed history wire
    → PassesFront passed history (Wrote blocks) wire wire' → All (IsOutsider (Wrote blocks ∷ history)) (outside_machines wire') → TakeWrites passed (Wrote blocks ∷ history) wire'
wrote-keeps passed history blocks wire wire' of_record before takes passes outside =
    let can = (record-sound history before).can in
    let accepted = of_record.reachable.accepted.0 in
    let low = addresses passed history wire takes in
    let of_line = writes-of_line history blocks can low accepted in
    let few : next_serial history + 1 ≤ 1099511627775 = of_record.reachable.few in
    after-zip (IsServed passed (next_serial history) blocks) passed history (Wrote blocks ∷ history) wire wire' refl takes
    (wrote-zip passed history blocks wire wire' (omega arith) of_line.plain accepted takes passes)
    (λ member memory memory' has own written. elim written [
      | inl after_it ↦ subst (TakesWrites passed (Wrote blocks ∷ history) member) (sym after_it) (wrote-yes passed history blocks member memory can of_line low has own)
      | inr missed ↦ subst (TakesWrites passed (Wrote blocks ∷ history) member) (sym missed.0) (wrote-no passed history blocks member memory missed.1 own)
    ])
    outside takes.answered

-- an arrival

answered-by : (passed : ℕ → Bool) (history : History) (arrival : Arrival) (serial station number : ℕ)
    → ((station number : ℕ) → list_any (confirms (Block station number)) (judged_by history arrival) ≡ true → passed arrival.serial ≡ true)
    → (was_confirmed history serial (Block station number) ≡ true → passed serial ≡ true) → was_confirmed (Came arrival ∷ history) serial (Block station number) ≡ true → passed serial ≡ true
answered-by passed history arrival serial station number whole before is =
    let good = list_any (confirms (Block station number)) (judged_by history arrival) in
    by_bool ((arrival.serial == serial) && good)
    (λ t.
    let parts = and_parts (arrival.serial == serial) good t in
    subst (λ (n : ℕ). passed n ≡ true) (eqb-true arrival.serial serial parts.0) (whole station number parts.1))
    (λ t. before (member-by ((arrival.serial == serial) && good) (was_confirmed history serial (Block station number)) is t))

came-held : (good : Bool) (last : Option (ℕ × List ℕ)) (held : MayHold) (bytes : List ℕ) → (good ≡ true → (write : ℕ × List ℕ) × (last ≡ Some write) × (bytes ≡ write.1)) → MayHoldBytes held bytes
    → MayHoldBytes (held_after_answer good last held) bytes
came-held true last held bytes own before known =
    let write = own refl in
    let contents : option_map_or (λ (found : ℕ × List ℕ). found.1 ∷ []) last [] ≡ write.0.1 ∷ [] = ap (λ found. option_map_or (λ (found : ℕ × List ℕ). found.1 ∷ []) found []) write.1 in
    inr (subst (λ (all : List (List ℕ)). Contains all bytes) (sym contents) (subst (Contains (write.0.1 ∷ [])) (sym write.2) (contains-first write.0.1 [])))
came-held false last held bytes own before known = before known

came-takes : (passed : ℕ → Bool) (history : History) (arrival : Arrival) (member : Member) (memory : List ℕ) → Contains (line_of history) member
    → ((station number : ℕ) → list_any (confirms (Block station number)) (judged_by history arrival) ≡ true → passed arrival.serial ≡ true) → TakesWrites passed history member memory
    → TakesWrites passed (Came arrival ∷ history) member memory
came-takes passed history arrival member memory has whole own = record {
  machine = own.machine;
  all_bytes = own.all_bytes;
  taken = own.taken;
  held = λ index within. by-area index within (slice_get_cases member.slave.areas index).1;
}
  where
    answered : (index : ℕ) (area : Area) → slice_get member.slave.areas index ≡ Some area → list_any (confirms (Block member.slave.station (2 * index + 1))) (judged_by history arrival) ≡ true
        → (write : ℕ × List ℕ) × (last_write history member.slave.station (2 * index + 1) ≡ Some write) × (fmmu_block_at memory index ≡ write.1)
    answered index area there good =
        let one = confirmed-last history arrival member.slave.station (2 * index + 1) good in
        let block = fmmu_line_block (line_of history) member index area in (
          write_of arrival.serial one.block,
          one.last,
          ap (λ (n : ℕ). slice_range memory (1536 + 16 * index) (1536 + 16 * index + n)) (sym (length-fmmu area (mapping_of (line_of history) area.task (member_area_key member index area))))
              ∙ own.taken block (write_of arrival.serial one.block) (fmmu-of_member (line_of history) member index area has there) one.last (whole member.slave.station (2 * index + 1) good),
        )

    by-area : (index : ℕ) → index < length member.slave.areas
        → ((area : Area) × (index < length member.slave.areas) × (slice_get member.slave.areas index ≡ Some area) × (get_or member.slave.areas index area ≡ area)) ⊎ ((length member.slave.areas ≤ index) × (slice_get member.slave.areas index ≡ None))
        → MayHoldBytes (may_hold (Came arrival ∷ history) member.slave.station (2 * index + 1)) (fmmu_block_at memory index)
    by-area index within (inl found) =
        came-held (list_any (confirms (Block member.slave.station (2 * index + 1))) (judged_by history arrival)) (last_write history member.slave.station (2 * index + 1))
        (may_hold history member.slave.station (2 * index + 1)) (fmmu_block_at memory index) (answered index found.0 found.2) (own.held index within)
    by-area index within (inr outer) = let beyond = outer.0 in absurd (omega arith)

pub came-keeps : (passed : ℕ → Bool) (history : History) (arrival : Arrival) (wire wire' : List WireMachine) → TakeWrites passed history wire → ArrivalComesBack passed history arrival wire wire'
    → All (IsOutsider (Came arrival ∷ history)) (outside_machines wire') → TakeWrites passed (Came arrival ∷ history) wire'
came-keeps passed history arrival wire wire' takes back outside =
    after-zip (λ m m'. m' ≡ m) passed history (Came arrival ∷ history) wire wire' refl takes
    (subst (AllZip (λ m m'. m' ≡ m) (line_machines wire)) (sym back.line_is) (zip-same (λ m m'. m' ≡ m) (line_machines wire) (λ m. refl)))
    (λ member memory memory' has own one. subst (TakesWrites passed (Came arrival ∷ history) member) (sym one) (came-takes passed history arrival member memory has back.whole own))
    outside (λ serial station number. answered-by passed history arrival serial station number back.whole (takes.answered serial station number))
